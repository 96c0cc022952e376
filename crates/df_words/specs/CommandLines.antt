-- A command line: a command's word and its number, and then its options in any order.
use Rattle.std.specs.Prelude.{◌≡◌, ℕ, ◌+◌, ◌-◌, ◌≤◌, ◌<◌, ◌++◌, length, take, true, false, List, [], ◌∷◌, Option, Some, None, All, AllPairs}
use Rattle.std.specs.List.{flat_map}
use Rattle.df_words.specs.Table.{named, flagged, takes, excludes, number, value, number_within, nothing_stated, with_option, command_named}
use Rattle.df_words.specs.declared.table.Name.{Name}
use Rattle.df_words.specs.declared.table.Flag.{Flag}
use Rattle.df_words.specs.declared.table.Bounds.{Bounds}
use Rattle.df_words.specs.declared.table.Stated.{Stated}
use Rattle.df_words.specs.declared.command.Command.{Command}

-- the words of a number where one is wanted, and of none where none is
abbrev pub IsNumber : Option Bounds → List (List ℕ) → ℕ → Type 0
IsNumber None words n = (words ≡ []) × (n ≡ 0)
IsNumber (Some bounds) words n = (word : List ℕ) × (words ≡ word ∷ []) × (number_within bounds word ≡ Some n)

-- an option as it is stated: its word, and the words of its number
pub record Item : Type 0 where
  pub word : List ℕ
  pub flag : Flag
  pub more : List (List ℕ)
  pub n : ℕ

abbrev pub words_of : Item → List (List ℕ)
words_of item = item.word ∷ item.more

-- the word names the option, the command has it, and its number is within its bounds
pub record IsOption (name : Name) (item : Item) : Type 0 where
  pub flag_is : flagged item.word ≡ Some item.flag
  pub taken : takes name item.flag ≡ true
  pub number_is : IsNumber (value item.flag) item.more item.n

-- neither excludes the other where they stand in this order
abbrev pub Agree : Item → Item → Type 0
Agree first second = excludes first.flag second.flag ≡ false

-- what all options together state
abbrev pub with_items : Stated → List Item → Stated
with_items stated [] = stated
with_items stated (item ∷ items) = with_items (with_option stated item.flag item.n) items

-- these words ask for this command
pub record IsCommandLine (words : List (List ℕ)) (command : Command) : Type 0 where
  pub head : List ℕ
  pub name : Name
  pub more : List (List ℕ)
  pub n : ℕ
  pub items : List Item
  pub words_are : words ≡ head ∷ (more ++ flat_map words_of items)
  pub name_is : named head ≡ Some name
  pub number_is : IsNumber (number name) more n
  pub options_are : All (IsOption name) items
  pub agree : AllPairs Agree items
  pub command_is : command ≡ command_named name n (with_items nothing_stated items)

-- a command line begins with these words
pub record CanGoOn (words : List (List ℕ)) : Type 0 where
  pub more : List (List ℕ)
  pub command : Command
  pub line : IsCommandLine (words ++ more) command

-- the number of the first word such that no command line begins with the words up to it; else of the word that is missing
pub record IsFirstFault (words : List (List ℕ)) (n : ℕ) : Type 0 where
  pub some : 1 ≤ n
  pub before : CanGoOn (take (n - 1) words)
  pub here : n ≤ length words → CanGoOn (take n words) → ⊥
  pub past : length words < n → (n ≡ length words + 1) × ((command : Command) → IsCommandLine words command → ⊥)
