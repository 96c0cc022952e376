-- Words read one after the other, and what a reading of words can be.
use Rattle.std.proofs.Common.{◌≡◌, ℕ, ◌+◌, ◌≤◌, ◌<◌, Bool, true, false, ◌&&◌, cond, List, [], ◌∷◌, ◌++◌, length, take, get_or, Some, None, refl, sym, subst, ap, ◌∙◌, arith, tests}
use Rattle.std.specs.declared.option.Option.{Option}
use Rattle.std.specs.Option.{option_and_then, option_map, is_some}
use Rattle.std.proofs.lemmas.Option.{same_Some, option_and_then_some}
use Rattle.std.proofs.lemmas.List.{take_more}
use Rattle.df_io.specs.declared.numbers.NumberRead.{NumberRead}
use Rattle.df_io.specs.declared.numbers.NumberRead.TheVariants as read
use Rattle.df_words.specs.Table.{flagged, takes, number, value, within, number_in, IsIn, with_option, named, nothing_stated}
use Rattle.df_words.specs.Reading.{after, reading_from, begun, opened, with_flag, is_free, IsReady, ended}
use Rattle.df_words.specs.declared.table.Name.{Name}
use Rattle.df_words.specs.declared.table.Flag.{Flag}
use Rattle.df_words.specs.declared.table.Bounds.{Bounds}
use Rattle.df_words.specs.declared.table.Stated.{Stated}
use Rattle.df_words.specs.declared.command.Command.{Command}
use Rattle.df_words.specs.declared.words.Reading.{Reading}
use Rattle.df_words.specs.declared.words.Reading.TheVariants.{Start, Number, Given, Value}

-- words and then words
pub reading_on : (r : Reading) (xs ys : List (List ℕ)) → reading_from r (xs ++ ys) ≡ option_and_then (λ s. reading_from s ys) (reading_from r xs)
reading_on r [] ys = refl
reading_on r (x ∷ xs) ys = elim (after r x) as (λ o. option_and_then (λ next. reading_from next (xs ++ ys)) o ≡ option_and_then (λ s. reading_from s ys) (option_and_then (λ next. reading_from next xs) o)) [
  | None ↦ refl
  | Some next ↦ reading_on next xs ys
]

last : (r : Reading) (word : List ℕ) → reading_from r (word ∷ []) ≡ after r word
last r word = elim (after r word) as (λ o. option_and_then (λ next. reading_from next []) o ≡ o) [ None ↦ refl | Some next ↦ refl ]

-- what was read with one word more
pub one_more : (r s : Reading) (words : List (List ℕ)) (n : ℕ) → n < length words → reading_from r (take n words) ≡ Some s → reading_from r (take (n + 1) words) ≡ after s (get_or words n [])
one_more r s words n h before =
    ap (reading_from r) (take_more words n [] h) ∙ reading_on r (take n words) (get_or words n [] ∷ []) ∙ ap (option_and_then (λ t. reading_from t (get_or words n [] ∷ []))) before ∙ last s (get_or words n [])

-- these words more ask for this command
abbrev pub Asks : Reading → List (List ℕ) → Command → Type 0
Asks r words command = option_and_then ended (reading_from r words) ≡ Some command

-- the first of them was read
pub asks_on : {P : Type 0} (r : Reading) (word : List ℕ) (words : List (List ℕ)) (command : Command) → Asks r (word ∷ words) command → ((next : Reading) → after r word ≡ Some next → Asks next words command → P) → P
asks_on {P} r word words command h k = by (after r word) refl h
  where
    by : (o : Option Reading) → after r word ≡ o → option_and_then ended (option_and_then (λ next. reading_from next words) o) ≡ Some command → P
    by None e h = absurd (cc)
    by (Some next) e h = k next e h

pub map_some : {A B P : Type 0} (f : A → B) (o : Option A) (y : B) → option_map f o ≡ Some y → ((x : A) → o ≡ Some x → f x ≡ y → P) → P
map_some f None y h k = absurd (cc)
map_some f (Some x) y h k = k x refl (same_Some _ _ h)

pub gated : (a b : Bool) (x y : Reading) → cond (a && b) (Some x) None ≡ Some y → (a ≡ true) × (b ≡ true) × (x ≡ y)
gated true true x y h = (refl, refl, same_Some x y h)
gated true false x y h = absurd (cc)
gated false b x y h = absurd (cc)

is_within : (bounds : Bounds) (r : NumberRead) (n : ℕ) → within bounds r ≡ Some n → (bounds.least ≤ n) × (n ≤ bounds.most)
is_within bounds (read.Value v) n h = grind (arith, tests)
is_within bounds read.NotDigits n h = absurd (cc)
is_within bounds read.TooLarge n h = absurd (cc)

pub is_in : (wanted : Option Bounds) (word : List ℕ) (n : ℕ) → number_in wanted word ≡ Some n → IsIn wanted n
is_in None word n h = absurd (cc)
is_in (Some bounds) word n h = is_within bounds _ n h

begun_ready : (wanted : Option Bounds) (name : Name) → number name ≡ wanted → IsReady (begun wanted name)
begun_ready None name e = subst (λ o. IsIn o 0) (sym e) refl
begun_ready (Some bounds) name e = ap is_some e

opened_ready : (wanted : Option Bounds) (name : Name) (n : ℕ) (s : Stated) (f : Flag) → value f ≡ wanted → IsIn (number name) n → IsReady (opened wanted name n s f)
opened_ready None name n s f e h = h
opened_ready (Some bounds) name n s f e h = (h, ap is_some e)

after_ready : (r : Reading) (word : List ℕ) (next : Reading) → IsReady r → after r word ≡ Some next → IsReady next
after_ready Start word next h e = map_some (λ name. begun (number name) name) (named word) next e (λ name _ same. subst IsReady same (begun_ready (number name) name refl))
after_ready (Number name) word next h e = map_some (λ n. Given name n nothing_stated) (number_in (number name) word) next e (λ n spelled same. subst IsReady same (is_in (number name) word n spelled))
after_ready (Given name n s) word next h e = option_and_then_some (with_flag name n s) (flagged word) next e (λ f _ given. subst IsReady (gated (takes name f) (is_free s f) _ next given).2 (opened_ready (value f) name n s f refl h))
after_ready (Value name n s f) word next h e = map_some (λ m. Given name n (with_option s f m)) (number_in (value f) word) next e (λ m _ same. subst IsReady same h.0)

-- what words are read to
pub ready : (r : Reading) (words : List (List ℕ)) (next : Reading) → IsReady r → reading_from r words ≡ Some next → IsReady next
ready r [] next h e = subst IsReady (same_Some r next e) h
ready r (word ∷ words) next h e = option_and_then_some (λ s. reading_from s words) (after r word) next e (λ s read rest. ready s words next (after_ready r word s h read) rest)
