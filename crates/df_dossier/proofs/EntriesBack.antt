-- Entry lines, read back.
use Rattle.std.proofs.Common.{◌≡◌, ◌==◌, ℕ, suc, ◌+◌, ◌<◌, true, ltb, List, [], ◌∷◌, ◌++◌, length, ℤ, pos, negsuc, neg_ℤ, Some, option_map, codes, decimal, refl, sym, ap, ◌∙◌, arith, tests, append-nil, append_assoc, length-append}
use Rattle.std.specs.List.{flat_map}
use Rattle.std.specs.Fmt.{signed_decimal}
use Rattle.df_io.specs.Lines.{is_blank, is_hash}
use Rattle.df_io.specs.Joined.{Each, Lacks, IsToken}
use Rattle.df_io.proofs.Joining.{tokens_back, lacks_first, lacks_onto}
use Rattle.df_io.proofs.NumbersBack.{decimal_token, decimal_lacks}
use Rattle.df_walk.specs.declared.Rules.{Rules}
use Rattle.df_walk.specs.declared.Rules.TheVariants.{Plain, Divisor}
use Rattle.df_walk.specs.declared.Entry.{Entry}
use Rattle.df_walk.specs.declared.Entry.TheVariants.{Branch, Over, Under, Settled, Residue, Cut}
use Rattle.df_walk.specs.declared.CutRow.{CutRow}
use Rattle.df_dossier.specs.Tokens.{◌>>?◌, ending, number_within}
use Rattle.df_dossier.specs.Entries.{weight_of, weight_size, cut_from, entry_read, entry_tokens, row_tokens}
use Rattle.df_dossier.specs.RoundTrips.{IsWeight, EachFollows, IsLogged, EntriesReadBack}
use Rattle.df_dossier.proofs.NumbersRead.{within_back, place_back, word_token}
use Rattle.df_dossier.proofs.CutRows.{cut_step}

weight_plain : (token : List ℕ) → Lacks (λ b. b == 45) token → weight_of token ≡ option_map pos (weight_size token)
weight_plain [] lacks = refl
weight_plain (b ∷ bs) lacks = rw (lacks_first (λ b. b == 45) b bs lacks) refl

weight_back : (z : ℤ) → IsWeight z → weight_of (signed_decimal z) ≡ Some z
weight_back (pos n) is =
    weight_plain (decimal n) (decimal_lacks (λ b. b == 45) n (λ b low high. grind (arith, tests, low)) (omega (arith, is.1)))
    ∙ ap (option_map pos) (within_back 1 1000 n is.0 is.1 (omega arith))
weight_back (negsuc n) is = ap (option_map (λ n. neg_ℤ (pos n))) (within_back 1 1000 (suc n) (omega arith) is (omega arith))

signed_token : (z : ℤ) → IsWeight z → IsToken (signed_decimal z)
signed_token (pos n) is = decimal_token n (omega (arith, is.1))
signed_token (negsuc n) is =
    let digits = decimal_token (suc n) (omega (arith, is)) in record {
      some = omega arith;
      filled = lacks_onto is_blank 45 (decimal (suc n)) refl digits.filled;
      plain = lacks_onto is_hash 45 (decimal (suc n)) refl digits.plain;
    }

rows_tokens : (before ws : List CutRow) → EachFollows before ws → Each IsToken (flat_map row_tokens ws)
rows_tokens before [] each = tt
rows_tokens before (w ∷ ws) each = (signed_token w.weight each.0.weight, (decimal_token w.row (omega (arith, each.0.row)), rows_tokens (before ++ w ∷ []) ws each.2))

cut_end : (ws : List CutRow) → 0 < length ws → cut_from ws [] ≡ Some ws
unfolding cut_from
cut_end ws some = let kept : ltb 0 (length ws) ≡ true = grind (arith, tests, some) in rw kept refl

cut_back : (before ws : List CutRow) → 0 < length before + length ws → EachFollows before ws → cut_from before (flat_map row_tokens ws) ≡ Some (before ++ ws)
cut_back before [] some each = ap (λ l. cut_from l []) (sym (append-nil before)) ∙ cut_end (before ++ []) (omega (arith, some, length-append before []))
cut_back before (w ∷ ws) some each =
    cut_step before (signed_decimal w.weight) (decimal w.row) (flat_map row_tokens ws) w.weight w.row (weight_back w.weight each.0.weight) (place_back w.row each.0.row) each.1
    ∙ cut_back (before ++ w ∷ []) ws (omega (arith, length-append before (w ∷ []))) each.2
    ∙ ap Some (append_assoc before (w ∷ []) ws)

pub tokens_are : (rules : Rules) (e : Entry) → IsLogged rules e → Each IsToken (entry_tokens e)
tokens_are rules (Branch column) is = (word_token (codes "branch") (omega arith) refl, (decimal_token column (omega (arith, is)), tt))
tokens_are rules (Over row) is = (word_token (codes "over") (omega arith) refl, (decimal_token row (omega (arith, is)), tt))
tokens_are rules (Under row) is = (word_token (codes "under") (omega arith) refl, (decimal_token row (omega (arith, is)), tt))
tokens_are rules Settled is = (word_token (codes "settled") (omega arith) refl, tt)
tokens_are Plain (Residue row m) is = absurd is
tokens_are Plain (Cut ws) is = absurd is
tokens_are Divisor (Residue row m) is = (word_token (codes "residue") (omega arith) refl, (decimal_token row (omega (arith, is.0)), (decimal_token m (omega (arith, is.2)), tt)))
tokens_are Divisor (Cut ws) is = (word_token (codes "cut") (omega arith) refl, rows_tokens [] ws.items is.1)

pub read_back : (rules : Rules) (e : Entry) → IsLogged rules e → entry_read rules (entry_tokens e) ≡ Some e
read_back rules (Branch column) is = ap (λ o. option_map Branch (o >>? λ n. ending [] n)) (place_back column is)
read_back rules (Over row) is = ap (λ o. option_map Over (o >>? λ n. ending [] n)) (place_back row is)
read_back rules (Under row) is = ap (λ o. option_map Under (o >>? λ n. ending [] n)) (place_back row is)
read_back rules Settled is = refl
read_back Plain (Residue row m) is = absurd is
read_back Plain (Cut ws) is = absurd is
read_back Divisor (Residue row m) is =
    ap (λ o. o >>? λ r. number_within 2 4294967295 (decimal m) >>? λ n. ending [] (Residue r n)) (place_back row is.0)
    ∙ ap (λ o. o >>? λ n. ending [] (Residue row n)) (within_back 2 4294967295 m is.1 is.2 (omega arith))
read_back Divisor (Cut ws) is = ap (option_map (λ l. Cut record { items = l })) (cut_back [] ws.items (omega (arith, is.0)) is.1)

pub entries_back : EntriesReadBack
entries_back rules e is = ap (entry_read rules) (tokens_back (entry_tokens e) (tokens_are rules e is)) ∙ read_back rules e is
