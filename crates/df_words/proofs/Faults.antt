-- The first word at fault is the one at which reading stops.
use Rattle.std.proofs.Common.{◌≡◌, ℕ, ◌+◌, ◌-◌, ◌<◌, List, [], ◌∷◌, ◌++◌, length, take, get_or, Some, None, refl, sym, subst, ap, ◌∙◌, arith, codes}
use Rattle.std.specs.Option.{option_and_then, option_map}
use Rattle.std.proofs.lemmas.List.{take_all}
use Rattle.df_words.specs.Table.{nothing_stated, with_option, command_named}
use Rattle.df_words.specs.Reading.{after, ended, reading_from, command_of, IsReady}
use Rattle.df_words.specs.CommandLines.{CanGoOn, IsFirstFault}
use Rattle.df_words.specs.declared.command.Command.{Command}
use Rattle.df_words.specs.declared.command.Command.TheVariants as command
use Rattle.df_words.specs.declared.words.Reading.{Reading}
use Rattle.df_words.specs.declared.words.Reading.TheVariants.{Start, Number, Given, Value}
use Rattle.df_words.proofs.Rows.{spelled, valued}
use Rattle.df_words.proofs.Readings.{reading_on, one_more, ready, Asks}
use Rattle.df_words.proofs.CommandLines.{command_lines}

-- where reading stopped, no more words make a command line
stops : (words : List (List ℕ)) → reading_from Start words ≡ None → CanGoOn words → ⊥
stops words stopped can =
    let whole = (command_lines (words ++ can.more) can.command).1 can.line in
    let on = reading_on Start words can.more in
    let none : command_of (words ++ can.more) ≡ None = ap (option_and_then ended) (on ∙ ap (option_and_then (λ s. reading_from s can.more)) stopped) in absurd (cc)

-- what was read can be made a command line
ends : (r : Reading) → IsReady r → (more : List (List ℕ)) × (command : Command) × Asks r more command
ends Start h = (codes "show" ∷ [], command.Show, refl)
ends (Number name) h =
    let s = spelled name h in
    (s.0 ∷ [], command_named name s.1 nothing_stated, ap (λ o. option_and_then ended (option_and_then (λ next. Some next) (option_map (λ n. Given name n nothing_stated) o))) s.2)
ends (Given name n stated) h = ([], command_named name n stated, refl)
ends (Value name n stated flag) h =
    let s = valued flag h.1 in
    (s.0 ∷ [], command_named name n (with_option stated flag s.1), ap (λ o. option_and_then ended (option_and_then (λ next. Some next) (option_map (λ m. Given name n (with_option stated flag m)) o))) s.2)

-- and so the words that were read can go on
goes_on : (r : Reading) (words : List (List ℕ)) → reading_from Start words ≡ Some r → CanGoOn words
goes_on r words read =
    let e = ends r (ready Start words r tt read) in record {
      more = e.0;
      command = e.1;
      line = (command_lines (words ++ e.0) e.1).0 (ap (option_and_then ended) (reading_on Start words e.0 ∙ ap (option_and_then (λ s. reading_from s e.0)) read) ∙ e.2);
    }

-- the word that can't be read
pub fault_here : (r : Reading) (words : List (List ℕ)) (n : ℕ) → n < length words → reading_from Start (take n words) ≡ Some r → after r (get_or words n []) ≡ None → IsFirstFault words (n + 1)
fault_here r words n h read stopped =
    let same : n + 1 - 1 ≡ n = omega arith in record {
      some = omega arith;
      before = subst (λ m. CanGoOn (take m words)) (sym same) (goes_on r (take n words) read);
      here = λ _ can. stops (take (n + 1) words) (one_more Start r words n h read ∙ stopped) can;
      past = λ over. absurd (omega arith);
    }

-- the word that is missing
pub fault_past : (r : Reading) (words : List (List ℕ)) → reading_from Start words ≡ Some r → ended r ≡ None → IsFirstFault words (length words + 1)
fault_past r words read unended =
    let same : length words + 1 - 1 ≡ length words = omega arith in record {
      some = omega arith;
      before = subst (λ m. CanGoOn (take m words)) (sym same) (subst CanGoOn (sym (take_all (length words) words (omega arith))) (goes_on r words read));
      here = λ within _. absurd (omega arith);
      past = λ _. (
        refl,
        λ command line.
            let whole = (command_lines words command).1 line in
            let none : command_of words ≡ None = ap (option_and_then ended) read ∙ unended in absurd (cc),
      );
    }
