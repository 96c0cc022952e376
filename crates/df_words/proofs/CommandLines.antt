-- Words are read to a command exactly where they are a command line.
use Rattle.std.proofs.Common.{◌≡◌, ℕ, zero, suc, ◌≤◌, Bool, true, ◌&&◌, cond, List, [], ◌∷◌, ◌++◌, Some, None, length, refl, sym, subst, ap, ◌∙◌, arith}
use Rattle.std.specs.Prelude.{All, AllPairs}
use Rattle.std.specs.declared.option.Option.{Option}
use Rattle.std.specs.List.{flat_map}
use Rattle.std.specs.Option.{option_and_then, option_map}
use Rattle.std.proofs.lemmas.Option.{same_Some, option_and_then_some}
use Rattle.std.proofs.lemmas.List.Elements.{All-head, All-tail, All-cons, All-nil}
use Rattle.std.proofs.lemmas.List.Kept.{AllPairs-cons}
use Rattle.std.proofs.lemmas.Bool.{and_from}
use Rattle.df_words.specs.Table.{takes, flagged, named, number, value, number_in, nothing_stated, with_option, command_named}
use Rattle.df_words.specs.CommandLines.{Item, words_of, IsNumber, IsOption, Agree, with_items, IsCommandLine}
use Rattle.df_words.specs.Reading.{reading_from, begun, opened, with_flag, is_free, ended, command_of, CommandLineLaw}
use Rattle.df_words.specs.declared.table.Name.{Name}
use Rattle.df_words.specs.declared.table.Flag.{Flag}
use Rattle.df_words.specs.declared.table.Bounds.{Bounds}
use Rattle.df_words.specs.declared.table.Stated.{Stated}
use Rattle.df_words.specs.declared.command.Command.{Command}
use Rattle.df_words.specs.declared.words.Reading.{Reading}
use Rattle.df_words.specs.declared.words.Reading.TheVariants.{Start, Number, Given, Value}
use Rattle.df_words.proofs.Readings.{reading_on, Asks, asks_on, map_some, gated}
use Rattle.df_words.proofs.Rows.{was_free, is_free_still}

-- options of a command, after those that are stated
record AreOptions (name : Name) (s : Stated) (items : List Item) : Type 0 where
  pub options : All (IsOption name) items
  pub free : All (λ item. is_free s item.flag ≡ true) items
  pub agree : AllPairs Agree items

gate : (a b : Bool) (x : Reading) → a ≡ true → b ≡ true → cond (a && b) (Some x) None ≡ Some x
gate a b x p q = ap (λ c. cond c (Some x) None) (and_from a b p q)

-- an option's number is read
value_read : (name : Name) (n : ℕ) (s : Stated) (f : Flag) (wanted : Option Bounds) (more : List (List ℕ)) (m : ℕ) → value f ≡ wanted → IsNumber wanted more m → reading_from (opened wanted name n s f) more ≡ Some (Given name n (with_option s f m))
value_read name n s f None more m e h = ap (reading_from (Given name n (with_option s f 0))) h.0 ∙ ap (λ k. Some (Given name n (with_option s f k))) (sym h.1)
value_read name n s f (Some bounds) more m e h =
    ap (reading_from (Value name n s f)) h.1
    ∙ ap (λ o. option_and_then (λ next. Some next) (option_map (λ k. Given name n (with_option s f k)) (number_in o h.0))) e
    ∙ ap (λ o. option_and_then (λ next. Some next) (option_map (λ k. Given name n (with_option s f k)) o)) h.2

-- an option is read
option_read : (name : Name) (n : ℕ) (s : Stated) (item : Item) → IsOption name item → is_free s item.flag ≡ true → reading_from (Given name n s) (words_of item) ≡ Some (Given name n (with_option s item.flag item.n))
option_read name n s item is free =
    let more = option_and_then (λ next. reading_from next item.more) in
    ap (λ o. more (option_and_then (with_flag name n s) o)) is.flag_is
    ∙ ap more (gate (takes name item.flag) (is_free s item.flag) (opened (value item.flag) name n s item.flag) is.taken free)
    ∙ value_read name n s item.flag (value item.flag) item.more item.n refl is.number_is

-- and those after it are options still
rest_are : (name : Name) (s : Stated) (item : Item) (items : List Item) → AreOptions name s (item ∷ items) → AreOptions name (with_option s item.flag item.n) items
rest_are name s item items are = record {
  options = All-tail (IsOption name) item items are.options;
  free = λ k d within. is_free_still s item.flag item.n _ (are.free (suc k) d (omega arith)) (are.agree 0 (suc k) d (omega arith) (omega arith));
  agree = λ i j d before within. are.agree (suc i) (suc j) d (omega arith) (omega arith);
}

-- options in any order are read
options_read : (name : Name) (n : ℕ) (s : Stated) (items : List Item) → AreOptions name s items → reading_from (Given name n s) (flat_map words_of items) ≡ Some (Given name n (with_items s items))
options_read name n s [] are = refl
options_read name n s (item ∷ items) are =
    reading_on (Given name n s) (words_of item) (flat_map words_of items)
    ∙ ap (option_and_then (λ r. reading_from r (flat_map words_of items))) (option_read name n s item (All-head (IsOption name) item items are.options) (are.free 0 item (omega arith)))
    ∙ options_read name n (with_option s item.flag item.n) items (rest_are name s item items are)

-- and what is read is options
record Found (name : Name) (n : ℕ) (s : Stated) (words : List (List ℕ)) (command : Command) : Type 0 where
  pub items : List Item
  pub words_are : words ≡ flat_map words_of items
  pub are : AreOptions name s items
  pub command_is : command ≡ command_named name n (with_items s items)

-- with one option before them
one_before : (name : Name) (n : ℕ) (s : Stated) (item : Item) (words : List (List ℕ)) (command : Command) → IsOption name item → is_free s item.flag ≡ true
    → Found name n (with_option s item.flag item.n) words command → Found name n s (words_of item ++ words) command
one_before name n s item words command is free f = record {
  items = item ∷ f.items;
  words_are = ap (λ ws. words_of item ++ ws) f.words_are;
  are = record {
    options = All-cons (IsOption name) item f.items is f.are.options;
    free = All-cons (λ other. is_free s other.flag ≡ true) item f.items free (λ k d within. (was_free s item.flag item.n _ (f.are.free k d within)).0);
    agree = AllPairs-cons Agree item f.items (λ k d within. (was_free s item.flag item.n _ (f.are.free k d within)).1) f.are.agree;
  };
  command_is = f.command_is;
}

Finds : ℕ → Type 0
Finds k = (name : Name) (n : ℕ) (s : Stated) (words : List (List ℕ)) (command : Command) → length words ≤ k → Asks (Given name n s) words command → Found name n s words command

by_value : (k : ℕ) → Finds k → (name : Name) (n : ℕ) (s : Stated) (word : List ℕ) (f : Flag) (words : List (List ℕ)) (command : Command) (wanted : Option Bounds) → value f ≡ wanted
    → flagged word ≡ Some f → takes name f ≡ true → is_free s f ≡ true → length words ≤ k → Asks (opened wanted name n s f) words command → Found name n s (word ∷ words) command
unfolding Finds
by_value k finds name n s word f words command None e is taken free few h =
    one_before name n s record { word = word; flag = f; more = []; n = 0 } words command
    record { flag_is = is; taken = taken; number_is = subst (λ o. IsNumber o [] 0) (sym e) (refl, refl) }
    free (finds name n (with_option s f 0) words command few h)
by_value k finds name n s word f [] command (Some bounds) e is taken free few h = absurd (cc)
by_value k finds name n s word f (digits ∷ words) command (Some bounds) e is taken free few h =
    asks_on (Value name n s f) digits words command h (λ next read rest.
    map_some (λ m. Given name n (with_option s f m)) (number_in (value f) digits) next read (λ m spelled same.
    one_before name n s record { word = word; flag = f; more = digits ∷ []; n = m } words command
    record { flag_is = is; taken = taken; number_is = subst (λ o. IsNumber o (digits ∷ []) m) (sym e) (digits, refl, ap (λ o. number_in o digits) (sym e) ∙ spelled) }
    free (finds name n (with_option s f m) words command (omega arith) (subst (λ r. Asks r words command) (sym same) rest))))

found : (k : ℕ) → Finds k
unfolding Finds
found k name n s [] command few h = record {
  items = [];
  words_are = refl;
  are = record { options = All-nil (IsOption name); free = All-nil (λ item. is_free s item.flag ≡ true); agree = λ i j d before within. absurd (omega arith) };
  command_is = sym (same_Some _ _ h);
}
found zero name n s (word ∷ words) command few h = absurd (omega arith)
found (suc k) name n s (word ∷ words) command few h =
    asks_on (Given name n s) word words command h (λ next read rest.
    option_and_then_some (with_flag name n s) (flagged word) next read (λ f is given.
    let t = gated (takes name f) (is_free s f) (opened (value f) name n s f) next given in
    by_value k (found k) name n s word f words command (value f) refl is t.0 t.1 (omega arith) (subst (λ r. Asks r words command) (sym t.2) rest)))

-- a command's number is read
number_read : (name : Name) (wanted : Option Bounds) (more : List (List ℕ)) (n : ℕ) → number name ≡ wanted → IsNumber wanted more n → reading_from (begun wanted name) more ≡ Some (Given name n nothing_stated)
number_read name None more n e h = ap (reading_from (Given name 0 nothing_stated)) h.0 ∙ ap (λ k. Some (Given name k nothing_stated)) (sym h.1)
number_read name (Some bounds) more n e h =
    ap (reading_from (Number name)) h.1
    ∙ ap (λ o. option_and_then (λ next. Some next) (option_map (λ k. Given name k nothing_stated) (number_in o h.0))) e
    ∙ ap (λ o. option_and_then (λ next. Some next) (option_map (λ k. Given name k nothing_stated) o)) h.2

-- a command line asks for its command
line_read : (words : List (List ℕ)) (command : Command) → IsCommandLine words command → command_of words ≡ Some command
line_read words command line =
    let rest = flat_map words_of line.items in
    let all_free : All (λ item. is_free nothing_stated item.flag ≡ true) line.items = λ k d within. refl in
    ap command_of line.words_are
    ∙ ap (λ o. option_and_then ended (option_and_then (λ next. reading_from next (line.more ++ rest)) (option_map (λ m. begun (number m) m) o))) line.name_is
    ∙ ap (option_and_then ended) (reading_on (begun (number line.name) line.name) line.more rest
    ∙ ap (option_and_then (λ r. reading_from r rest)) (number_read line.name (number line.name) line.more line.n refl line.number_is)
    ∙ options_read line.name line.n nothing_stated line.items record { options = line.options_are; free = all_free; agree = line.agree })
    ∙ ap Some (sym line.command_is)

given_found : (head : List ℕ) (name : Name) (more : List (List ℕ)) (n : ℕ) (rest : List (List ℕ)) (command : Command) → named head ≡ Some name → IsNumber (number name) more n
    → Asks (Given name n nothing_stated) rest command → IsCommandLine (head ∷ (more ++ rest)) command
unfolding Finds
given_found head name more n rest command is number_is h =
    let f = found (length rest) name n nothing_stated rest command (omega arith) h in record {
      head = head;
      name = name;
      more = more;
      n = n;
      items = f.items;
      words_are = ap (λ ws. head ∷ (more ++ ws)) f.words_are;
      name_is = is;
      number_is = number_is;
      options_are = f.are.options;
      agree = f.are.agree;
      command_is = f.command_is;
    }

begun_found : (head : List ℕ) (name : Name) (wanted : Option Bounds) (rest : List (List ℕ)) (command : Command) → named head ≡ Some name → number name ≡ wanted → Asks (begun wanted name) rest command → IsCommandLine (head ∷ rest) command
begun_found head name None rest command is e h = given_found head name [] 0 rest command is (subst (λ o. IsNumber o [] 0) (sym e) (refl, refl)) h
begun_found head name (Some bounds) [] command is e h = absurd (cc)
begun_found head name (Some bounds) (digits ∷ rest) command is e h =
    asks_on (Number name) digits rest command h (λ next read more.
    map_some (λ n. Given name n nothing_stated) (number_in (number name) digits) next read (λ n spelled same.
    given_found head name (digits ∷ []) n rest command is
    (subst (λ o. IsNumber o (digits ∷ []) n) (sym e) (digits, refl, ap (λ o. number_in o digits) (sym e) ∙ spelled))
    (subst (λ r. Asks r rest command) (sym same) more)))

-- and words that ask for a command are one of its command lines
line_found : (words : List (List ℕ)) (command : Command) → command_of words ≡ Some command → IsCommandLine words command
line_found [] command h = absurd (cc)
line_found (head ∷ rest) command h =
    asks_on Start head rest command h (λ next read more.
    map_some (λ name. begun (number name) name) (named head) next read (λ name is same.
    begun_found head name (number name) rest command is refl (subst (λ r. Asks r rest command) (sym same) more)))

pub command_lines : CommandLineLaw
command_lines words command = (line_found words command, line_read words command)
