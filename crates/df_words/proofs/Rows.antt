-- What the proofs need of the rows: a number that is wanted can be spelled, and options that are stated are told apart.
use Rattle.std.proofs.Common.{◌≡◌, ℕ, Bool, true, false, not, ◌&&◌, List, codes, Some, refl}
use Rattle.std.specs.Option.{is_some}
use Rattle.std.proofs.lemmas.Bool.{and_from}
use Rattle.df_words.specs.Table.{excludes, number, value, number_in, has, with_option}
use Rattle.df_words.specs.Reading.{admits, is_free}
use Rattle.df_words.specs.declared.table.Name.{Name}
use Rattle.df_words.specs.declared.table.Name.TheVariants as name
use Rattle.df_words.specs.declared.table.Flag.{Flag}
use Rattle.df_words.specs.declared.table.Flag.TheVariants as flag
use Rattle.df_words.specs.declared.table.Stated.{Stated}

-- a command's number can be spelled
pub spelled : (name : Name) → is_some (number name) ≡ true → (word : List ℕ) × (n : ℕ) × (number_in (number name) word ≡ Some n)
spelled name.Workload wanted = (codes "1", 1, refl)
spelled name wanted = absurd (cc)

-- and so can an option's
pub valued : (flag : Flag) → is_some (value flag) ≡ true → (word : List ℕ) × (n : ℕ) × (number_in (value flag) word ≡ Some n)
valued flag.Budget wanted = (codes "1", 1, refl)
valued flag wanted = absurd (cc)

no : (e : Bool) → not e ≡ true → e ≡ false
no true h = absurd (cc)
no false h = refl

yes : (e : Bool) → e ≡ false → not e ≡ true
yes true h = absurd (cc)
yes false h = refl

fewer : (h e : Bool) → not e ≡ true → not (h && e) ≡ true
fewer true e k = k
fewer false e k = refl

four : (a b c d : Bool) → (a && (b && (c && d))) ≡ true → (a ≡ true) × (b ≡ true) × (c ≡ true) × (d ≡ true)
four true true true true h = (refl, refl, refl, refl)
four true true true false h = absurd (cc)
four true true false d h = absurd (cc)
four true false c d h = absurd (cc)
four false b c d h = absurd (cc)

-- no option stated excludes it
AreAdmitting : Stated → Flag → Type 0
AreAdmitting s g = (admits s flag.Budget g ≡ true) × (admits s flag.Log g ≡ true) × (admits s flag.Blocks g ≡ true) × (admits s flag.Json g ≡ true)

apart : (s : Stated) (g : Flag) → is_free s g ≡ true → AreAdmitting s g
unfolding AreAdmitting
apart s g h = four (admits s flag.Budget g) (admits s flag.Log g) (admits s flag.Blocks g) (admits s flag.Json g) h

joined : (s : Stated) (g : Flag) → AreAdmitting s g → is_free s g ≡ true
unfolding AreAdmitting
joined s g h = and_from _ _ h.0 (and_from _ _ h.1 (and_from _ _ h.2 h.3))

was_admitting : (s : Stated) (f : Flag) (n : ℕ) (g : Flag) → AreAdmitting (with_option s f n) g → AreAdmitting s g × (excludes f g ≡ false)
unfolding AreAdmitting
was_admitting s flag.Budget n g h = ((fewer (has s flag.Budget) _ h.0, h.1, h.2, h.3), no _ h.0)
was_admitting s flag.Log n g h = ((h.0, fewer (has s flag.Log) _ h.1, h.2, h.3), no _ h.1)
was_admitting s flag.Blocks n g h = ((h.0, h.1, fewer (has s flag.Blocks) _ h.2, h.3), no _ h.2)
was_admitting s flag.Json n g h = ((h.0, h.1, h.2, fewer (has s flag.Json) _ h.3), no _ h.3)

are_admitting : (s : Stated) (f : Flag) (n : ℕ) (g : Flag) → AreAdmitting s g → excludes f g ≡ false → AreAdmitting (with_option s f n) g
unfolding AreAdmitting
are_admitting s flag.Budget n g h e = (yes _ e, h.1, h.2, h.3)
are_admitting s flag.Log n g h e = (h.0, yes _ e, h.2, h.3)
are_admitting s flag.Blocks n g h e = (h.0, h.1, yes _ e, h.3)
are_admitting s flag.Json n g h e = (h.0, h.1, h.2, yes _ e)

-- an option that is free beside another was free before, and the other doesn't exclude it
pub was_free : (s : Stated) (f : Flag) (n : ℕ) (g : Flag) → is_free (with_option s f n) g ≡ true → (is_free s g ≡ true) × (excludes f g ≡ false)
was_free s f n g free = let h = was_admitting s f n g (apart (with_option s f n) g free) in (joined s g h.0, h.1)

-- and one that was free, and that the other doesn't exclude, is free beside it
pub is_free_still : (s : Stated) (f : Flag) (n : ℕ) (g : Flag) → is_free s g ≡ true → excludes f g ≡ false → is_free (with_option s f n) g ≡ true
is_free_still s f n g free none = joined (with_option s f n) g (are_admitting s f n g (apart s g free) none)
