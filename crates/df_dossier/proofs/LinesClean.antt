-- The lines of a dossier have no line feeds.
use Rattle.std.proofs.Common.{◌≡◌, ℕ, suc, ◌<◌, ◌≤◌, ◌^◌, Bool, true, false, List, [], ◌∷◌, ◌++◌, length, map, Option, Some, None, ℤ, pos, negsuc, codes, decimal, refl, arith, tests, All}
use Rattle.std.specs.Prelude.{IfSome}
use mathlib.Core.Logic.{inl, inr}
use Rattle.std.specs.List.{flat_map, list_any}
use Rattle.std.specs.Fmt.{signed_decimal}
use Rattle.std.proofs.lemmas.List.Elements.{All-append}
use Rattle.df_io.specs.Joined.{Each, Lacks, is_line_feed, spaced}
use Rattle.df_io.proofs.Joining.{lacks_onto}
use Rattle.df_io.proofs.NumbersBack.{decimal_lacks}
use Rattle.df_walk.specs.declared.Rules.{Rules}
use Rattle.df_walk.specs.declared.Rules.TheVariants.{Plain, Divisor}
use Rattle.df_walk.specs.declared.Entry.{Entry}
use Rattle.df_walk.specs.declared.Entry.TheVariants.{Branch, Over, Under, Settled, Residue, Cut}
use Rattle.df_walk.specs.declared.CutRow.{CutRow}
use Rattle.df_walk.specs.Paths.{WrittenPath}
use Rattle.df_lang.specs.Problems.{Stated}
use Rattle.df_dossier.specs.Tokens.{after_spaces}
use Rattle.df_dossier.specs.Entries.{entry_tokens, row_tokens}
use Rattle.df_dossier.specs.Paths.{path_tokens, path_text, end_tokens}
use Rattle.df_dossier.specs.RoundTrips.{IsWeight, EachFollows, IsLogged}
use Rattle.df_dossier.specs.DossierTexts.{Logged, logged_text, head_tokens, count_tokens, start_text, spent_text, dossier_lines, IsRunPath, IsLoggedLine}
use Rattle.df_dossier.specs.Dossiers.{Ending}
use Rattle.df_dossier.specs.TextsBack.{IsOneLine}
use Rattle.df_dossier.specs.DossiersBack.{ending_text, IsEnding}

-- no line feed
abbrev pub IsLine : List ℕ → Type 0
IsLine text = Lacks is_line_feed text

empty_line : IsLine []
empty_line k d h = absurd (omega (arith, h))

pub line_join : (a b : List ℕ) → IsLine a → IsLine b → IsLine (a ++ b)
line_join a b left right = All-append (λ c. is_line_feed c ≡ false) a b left right

-- a text that is written out
pub word_line : (text : List ℕ) → list_any is_line_feed text ≡ false → IsLine text
word_line [] none = empty_line
word_line (b ∷ bs) none = by_first (is_line_feed b) refl (word_line bs) where
  by_first : (t : Bool) → is_line_feed b ≡ t → (list_any is_line_feed bs ≡ false → IsLine bs) → IsLine (b ∷ bs)
  by_first true e more = let some : list_any is_line_feed (b ∷ bs) ≡ true = rw e refl in absurd (cc)
  by_first false e more = let rest : list_any is_line_feed bs ≡ false = rw e at none in lacks_onto is_line_feed b bs e (more rest)

pub number_line : (n : ℕ) → n < 2 ^ 64 → IsLine (decimal n)
number_line n small = decimal_lacks is_line_feed n (λ b low high. grind (arith, tests)) small

pub after_line : (tokens : List (List ℕ)) → Each IsLine tokens → IsLine (after_spaces tokens)
after_line [] each = empty_line
after_line (t ∷ ts) each = lacks_onto is_line_feed 32 (t ++ after_spaces ts) refl (line_join t (after_spaces ts) each.0 (after_line ts each.1))

pub spaced_line : (tokens : List (List ℕ)) → Each IsLine tokens → IsLine (spaced tokens)
spaced_line [] each = empty_line
spaced_line (t ∷ []) each = each.0
spaced_line (t ∷ u ∷ us) each = line_join t (32 ∷ spaced (u ∷ us)) each.0 (lacks_onto is_line_feed 32 (spaced (u ∷ us)) refl (spaced_line (u ∷ us) each.1))

-- entries
weight_line : (z : ℤ) → IsWeight z → IsLine (signed_decimal z)
weight_line (pos n) is = number_line n (omega (arith, is.1))
weight_line (negsuc n) is = lacks_onto is_line_feed 45 (decimal (suc n)) refl (number_line (suc n) (omega (arith, is)))

rows_lines : (before ws : List CutRow) → EachFollows before ws → Each IsLine (flat_map row_tokens ws)
rows_lines before [] each = tt
rows_lines before (w ∷ ws) each = (weight_line w.weight each.0.weight, (number_line w.row (omega (arith, each.0.row)), rows_lines (before ++ w ∷ []) ws each.2))

entry_lines : (rules : Rules) (e : Entry) → IsLogged rules e → Each IsLine (entry_tokens e)
entry_lines rules (Branch column) is = (word_line (codes "branch") refl, (number_line column (omega (arith, is)), tt))
entry_lines rules (Over row) is = (word_line (codes "over") refl, (number_line row (omega (arith, is)), tt))
entry_lines rules (Under row) is = (word_line (codes "under") refl, (number_line row (omega (arith, is)), tt))
entry_lines rules Settled is = (word_line (codes "settled") refl, tt)
entry_lines Plain (Residue row m) is = absurd is
entry_lines Plain (Cut ws) is = absurd is
entry_lines Divisor (Residue row m) is = (word_line (codes "residue") refl, (number_line row (omega (arith, is.0)), (number_line m (omega (arith, is.2)), tt)))
entry_lines Divisor (Cut ws) is = (word_line (codes "cut") refl, rows_lines [] ws.items is.1)

-- paths
columns_lines : (size : ℕ) (cs : List ℕ) → size ≤ 4294967295 → All (λ c. c < size) cs → Each IsLine (map decimal cs)
columns_lines size [] high all = tt
columns_lines size (c ∷ cs) high all =
    let here : c < size = all 0 0 (omega arith) in
    (number_line c (omega (arith, here, high)), columns_lines size cs high (λ k d h. all (suc k) d (omega (arith, h))))

path_line : (p : WrittenPath) → IsRunPath p → IsLine (path_text p)
path_line p is = after_line (path_tokens p) (number_line p.size (omega (arith, is.short)), columns_lines p.size p.chosen is.short is.written.within)

-- the other lines
head_line : (rules : Rules) → IsLine (spaced (head_tokens rules))
head_line Plain = word_line (spaced (head_tokens Plain)) refl
head_line Divisor = word_line (spaced (head_tokens Divisor)) refl

count_line : (n : ℕ) → n < 2 ^ 64 → IsLine (spaced (count_tokens n))
count_line n small = spaced_line (count_tokens n) (word_line (codes "source") refl, (number_line n small, tt))

counts_line : (finished : Bool) (designs nodes : ℕ) → designs < 2 ^ 64 → nodes < 2 ^ 64 → IsLine (spaced (end_tokens finished designs nodes))
counts_line true designs nodes few_designs few_nodes =
    spaced_line (end_tokens true designs nodes) (
      word_line (codes "end") refl,
      (word_line (codes "finished") refl, (word_line (codes "designs") refl, (number_line designs few_designs, (word_line (codes "nodes") refl, (number_line nodes few_nodes, tt))))),
    )
counts_line false designs nodes few_designs few_nodes =
    spaced_line (end_tokens false designs nodes) (
      word_line (codes "end") refl,
      (
        word_line (codes "spent") refl,
        (word_line (codes "designs") refl, (number_line designs few_designs, (word_line (codes "nodes") refl, (number_line nodes few_nodes, (word_line (codes "next") refl, tt))))),
      ),
    )

pub spent_line : (designs nodes : ℕ) (next : WrittenPath) → designs < 2 ^ 64 → nodes < 2 ^ 64 → IsRunPath next → IsLine (spent_text designs nodes next)
spent_line designs nodes next few_designs few_nodes is =
    line_join (spaced (end_tokens false designs nodes)) (path_text next) (counts_line false designs nodes few_designs few_nodes) (path_line next is)

pub end_line : (e : Ending WrittenPath) → IsEnding e → IsLine (ending_text e)
end_line e is = by_next e.designs e.nodes e.next (omega (arith, is.designs)) (omega (arith, is.nodes)) is.next where
  by_next : (designs nodes : ℕ) (next : Option WrittenPath) → designs < 2 ^ 64 → nodes < 2 ^ 64 → IfSome next IsRunPath → IsLine (ending_text record { designs = designs; nodes = nodes; next = next })
  by_next designs nodes None few_designs few_nodes is = counts_line true designs nodes few_designs few_nodes
  by_next designs nodes (Some next) few_designs few_nodes is = spent_line designs nodes next few_designs few_nodes is

logged_line : (rules : Rules) (p : Stated) (x : Logged) → IsLoggedLine rules p x → IsOneLine x → IsLine (logged_text x)
logged_line rules p (inl (inl e)) is one = spaced_line (entry_tokens e) (entry_lines rules e is)
logged_line rules p (inl (inr line)) is one = one
logged_line rules p (inr comment) is one = lacks_onto is_line_feed 35 comment refl one

log_lines : (rules : Rules) (p : Stated) (log : List Logged) (end : List ℕ) → Each (IsLoggedLine rules p) log → Each IsOneLine log → IsLine end → Each IsLine (map logged_text log ++ end ∷ [])
log_lines rules p [] end each one last = (last, tt)
log_lines rules p (x ∷ log) end each one last = (logged_line rules p x each.0 one.0, log_lines rules p log end each.1 one.1 last)

join_each : (xs ys : List (List ℕ)) → Each IsLine xs → Each IsLine ys → Each IsLine (xs ++ ys)
join_each [] ys left right = right
join_each (x ∷ xs) ys left right = (left.0, join_each xs ys left.1 right)

pub dossier_clean : (rules : Rules) (source : List (List ℕ)) (p : Stated) (start : WrittenPath) (log : List Logged) (end : List ℕ)
    → length source < 2 ^ 64 → Each IsLine source → IsRunPath start → Each (IsLoggedLine rules p) log → Each IsOneLine log → IsLine end
    → Each IsLine (dossier_lines rules source start log end)
dossier_clean rules source p start log end few lines is_start each one is_end = (
  head_line rules,
  (
    count_line (length source) few,
    join_each source (start_text start ∷ (map logged_text log ++ end ∷ [])) lines (
      line_join (codes "from") (path_text start) (word_line (codes "from") refl) (path_line start is_start),
      log_lines rules p log end each one is_end,
    ),
  ),
)
