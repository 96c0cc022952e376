-- The JSON listing of designs.
use Rattle.std.specs.Prelude.{ℕ, Bool, List, [], ◌∷◌, ◌++◌, map, if◌then◌else◌, Option, Some, None, codes}
use Rattle.serde.specs.Event.{Log}
use Rattle.df_walk.specs.Paths.{WrittenPath}
use Rattle.df_lang.specs.Problems.{Stated}
use Rattle.df_lang.specs.Canonical.{point_text, canonical}
use Rattle.serde_json.specs.Data.{unsigned, Data, number, string, array, object, Items, no_items, item, Members, no_members, member}
use Rattle.serde_json.specs.Events.{SendsMembers}
use Rattle.serde_json.specs.Written.{compact_text}

-- a design that is listed: its base blocks, and all its blocks, or none where only base blocks are listed
pub record ListedDesign : Type 0 where
  pub base : List (List ℕ)
  pub all : List (List ℕ)

-- the designs of a problem that are listed, in order, and whether all blocks of each are listed too
pub record Listed : Type 0 where
  pub problem : Stated
  pub blocks : Bool
  pub designs : List ListedDesign

abbrev pub nothing_listed : Stated → Bool → Listed
nothing_listed s blocks = record { problem = s; blocks = blocks; designs = [] }

-- one design more, after the others
abbrev pub with_design : Listed → ListedDesign → Listed
with_design l design = record l { designs = l.designs ++ design ∷ [] }

-- the array of some values
abbrev pub items_of : List Data → Items
items_of [] = no_items
items_of (d ∷ ds) = item d (items_of ds)

abbrev pub array_of : {A : Type 0} → (A → Data) → List A → Data
array_of data_of xs = array (items_of (map data_of xs))

-- a block: the tokens of its points
abbrev pub block_data : List ℕ → List ℕ → Data
block_data fs block = array_of (λ p. string (point_text fs p)) block

abbrev pub blocks_data : List ℕ → List (List ℕ) → Data
blocks_data fs blocks = array_of (block_data fs) blocks

-- the base blocks of each design, and all its blocks
abbrev pub bases_data : List ℕ → List ListedDesign → Data
bases_data fs designs = array_of (λ d. blocks_data fs d.base) designs

abbrev pub all_data : List ℕ → List ListedDesign → Data
all_data fs designs = array_of (λ d. blocks_data fs d.all) designs

-- a path: its length, and its yes columns
abbrev pub path_data : WrittenPath → Data
path_data p = array_of (λ n. number (unsigned n)) (p.size ∷ p.chosen)

-- how the run ended: spent, where there is a path to go on from
abbrev pub end_word : Option WrittenPath → List ℕ
end_word None = codes "finished"
end_word (Some p) = codes "spent"

-- the members of the object, in the order of their names: all blocks, where they are listed; base blocks; how the run ended, and the
-- path where it goes on if it was spent; how many nodes it visited; and the canonical lines
abbrev pub with_blocks : Listed → Members → Members
with_blocks l members = if l.blocks then member (codes "blocks") (all_data l.problem.group l.designs) members else members

abbrev pub with_path : Option WrittenPath → Members → Members
with_path None members = members
with_path (Some p) members = member (codes "next") (path_data p) members

abbrev pub with_end : Option WrittenPath → Members → Members
with_end next members = member (codes "end") (string (end_word next)) (with_path next members)

abbrev pub last_members : Stated → ℕ → Members
last_members s nodes = member (codes "nodes") (number (unsigned nodes)) (member (codes "source") (array_of string (canonical s)) no_members)

abbrev pub listing_members : Listed → Option WrittenPath → ℕ → Members
listing_members l next nodes = with_blocks l (member (codes "designs") (bases_data l.problem.group l.designs) (with_end next (last_members l.problem nodes)))

abbrev pub listing_data : Listed → Option WrittenPath → ℕ → Data
listing_data l next nodes = object (listing_members l next nodes)

-- the text without spaces, and a line feed
unfoldable pub listing_text : Listed → Option WrittenPath → ℕ → List ℕ
listing_text l next nodes = compact_text (listing_data l next nodes) ++ 10 ∷ []

-- ---- for private clauses

-- members were sent that stand ahead of those that come next, whatever these are
abbrev pub ComesAhead : (Members → Members) → Log → Log → Type 0
ComesAhead ahead old now = (members : Members) (last : Log) → SendsMembers members now last → SendsMembers (ahead members) old last
