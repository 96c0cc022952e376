-- Arrays that are sent value by value, and that a listing has no float.
use Rattle.std.proofs.Common.{◌≡◌, ℕ, suc, ◌+◌, ◌<◌, ◌≤◌, Bool, true, false, ◌||◌, List, [], ◌∷◌, length, map, drop, get_or, Option, None, Some, is_some, if◌then◌else◌, codes, refl, sym, ap, ◌∙◌, subst, arith}
use Rattle.std.proofs.lemmas.List.{drop_more, drop_all}
use Rattle.serde.specs.Event.{Log, Logs, seq_begins, seq_ends, field_key}
use Rattle.serde.specs.declared.name.Case.TheVariants.{AsIs}
use Rattle.df_walk.specs.Paths.{WrittenPath}
use Rattle.df_lang.specs.Problems.{Stated}
use Rattle.df_lang.specs.Canonical.{point_text, canonical}
use Rattle.serde_json.specs.Data.{unsigned, Data, number, string, array, object, Items, no_items, item, Members, no_members, member}
use Rattle.serde_json.specs.Events.{items_len, members_len, SendsValue, SendsItems}
use Rattle.serde_json.specs.Written.{has_float, items_have_float, members_have_float}
use Rattle.df_list.specs.Listings.{ListedDesign, Listed, items_of, array_of, block_data, blocks_data, path_data, with_end, last_members, listing_members, listing_data, bases_data, all_data, with_blocks, ComesAhead}

-- the values from a place on, and the end of the array
abbrev pub SendsFrom : {A : Type 0} → (A → Data) → List A → ℕ → Log → Log → Type 0
SendsFrom data_of xs n old new = SendsItems (items_of (map data_of (drop n xs))) old new

-- what is still to be sent, and then all is
abbrev pub SendsRest : {A : Type 0} → (A → Data) → List A → ℕ → Log → Log → Type 0
SendsRest data_of xs n first now = (last : Log) → SendsFrom data_of xs n now last → SendsItems (items_of (map data_of xs)) first last

-- one value more
pub sends_next : {A : Type 0} (data_of : A → Data) (xs : List A) (n : ℕ) (x : A) (first old mid : Log) → n < length xs → SendsRest data_of xs n first old → SendsValue (data_of (get_or xs n x)) old mid → SendsRest data_of xs (n + 1) first mid
sends_next data_of xs n x first old mid low rest sent = λ last more. rest last (subst (λ l. SendsItems (items_of (map data_of l)) old last) (sym (drop_more xs n x low)) (mid, sent, more))

-- no value is left
pub sends_end : {A : Type 0} (data_of : A → Data) (xs : List A) (n : ℕ) (first old new : Log) → length xs ≤ n → SendsRest data_of xs n first old → Logs old new seq_ends → SendsItems (items_of (map data_of xs)) first new
sends_end data_of xs n first old new past rest ends = rest new (subst (λ l. SendsItems (items_of (map data_of l)) old new) (sym (drop_all n xs past)) ends)

pub many : {A : Type 0} (data_of : A → Data) (xs : List A) → items_len (items_of (map data_of xs)) ≡ length xs
many data_of [] = refl
many data_of (x ∷ xs) = ap suc (many data_of xs)

-- the whole array, with its begin and its end
pub sends_array : {A : Type 0} (data_of : A → Data) (xs : List A) (old first new : Log) → Logs old first (seq_begins (Some (length xs))) → SendsItems (items_of (map data_of xs)) first new → SendsValue (array_of data_of xs) old new
sends_array data_of xs old first new begins items = (first, subst (λ n. Logs old first (seq_begins (Some n))) (sym (many data_of xs)) begins, items)

-- all blocks were sent, where they are listed
pub blocks_ahead : (l : Listed) (old named mid : Log) → l.blocks ≡ true → Logs old named (field_key (codes "blocks") AsIs) → SendsValue (all_data l.problem.group l.designs) named mid → ComesAhead (with_blocks l) old mid
blocks_ahead l old named mid shown key sent = λ members last more. rw shown (named, mid, key, sent, more)

-- an array of values without floats has none
pub items_whole : {A : Type 0} (data_of : A → Data) (xs : List A) → ((x : A) → has_float (data_of x) ≡ false) → items_have_float (items_of (map data_of xs)) ≡ false
items_whole data_of [] each = refl
items_whole data_of (x ∷ xs) each = rw (each x) (items_whole data_of xs each)

block_whole : (fs block : List ℕ) → has_float (block_data fs block) ≡ false
block_whole fs block = items_whole (λ p. string (point_text fs p)) block (λ p. refl)

blocks_whole : (fs : List ℕ) (blocks : List (List ℕ)) → has_float (blocks_data fs blocks) ≡ false
blocks_whole fs blocks = items_whole (block_data fs) blocks (block_whole fs)

bases_whole : (fs : List ℕ) (designs : List ListedDesign) → has_float (bases_data fs designs) ≡ false
bases_whole fs designs = items_whole (λ d. blocks_data fs d.base) designs (λ d. blocks_whole fs d.base)

all_whole : (fs : List ℕ) (designs : List ListedDesign) → has_float (all_data fs designs) ≡ false
all_whole fs designs = items_whole (λ d. blocks_data fs d.all) designs (λ d. blocks_whole fs d.all)

lines_whole : (s : Stated) → has_float (array_of string (canonical s)) ≡ false
lines_whole s = items_whole string (canonical s) (λ line. refl)

path_whole : (p : WrittenPath) → has_float (path_data p) ≡ false
path_whole p = items_whole (λ n. number (unsigned n)) (p.size ∷ p.chosen) (λ n. refl)

rest_whole : (s : Stated) (nodes : ℕ) → members_have_float (last_members s nodes) ≡ false
rest_whole s nodes = rw (lines_whole s) refl

end_whole : (s : Stated) (next : Option WrittenPath) (nodes : ℕ) → members_have_float (with_end next (last_members s nodes)) ≡ false
end_whole s None nodes = rest_whole s nodes
end_whole s (Some p) nodes = rw (path_whole p) (rest_whole s nodes)

either : (a b : Bool) → a ≡ false → b ≡ false → (a || b) ≡ false
either a b x y = rw (x, y) refl

-- a listing has no float
pub listing_whole : (l : Listed) (next : Option WrittenPath) (nodes : ℕ) → has_float (listing_data l next nodes) ≡ false
listing_whole l next nodes = go l.blocks refl
  where
    tail : members_have_float (member (codes "designs") (bases_data l.problem.group l.designs) (with_end next (last_members l.problem nodes))) ≡ false
    tail = either _ _ (bases_whole l.problem.group l.designs) (end_whole l.problem next nodes)

    go : (b : Bool) → l.blocks ≡ b → has_float (listing_data l next nodes) ≡ false
    go true is = rw is (either _ _ (all_whole l.problem.group l.designs) tail)
    go false is = rw is tail

-- how many members the object has
pub members_many : (l : Listed) (next : Option WrittenPath) (nodes : ℕ) → (if l.blocks then 1 else 0) + (if is_some next then 1 else 0) + 4 ≡ members_len (listing_members l next nodes)
members_many l next nodes = go l.blocks next refl
  where
    go : (b : Bool) (o : Option WrittenPath) → l.blocks ≡ b → (if l.blocks then 1 else 0) + (if is_some o then 1 else 0) + 4 ≡ members_len (listing_members l o nodes)
    go true None is = rw is refl
    go true (Some p) is = rw is refl
    go false None is = rw is refl
    go false (Some p) is = rw is refl
