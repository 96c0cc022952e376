use Rattle.std.proofs.Common.{refl, subst}
use Rattle.df_search.specs.Searches.{search_of, Advances}
use Rattle.df_search.proofs.EventAnswers.{stands, answer_of}
use Rattle.df_search.proofs.SearchSteps.{asked_on, advances, on_walk}
use Rattle.df_search.proofs.search.Search.answer.Goals as goal

pub invariant_of-self : goal.invariant_of-self
invariant_of-self c =
    let answers = rw c.length.ensures.value at c.answer_of-state.ensures in
    on_walk c.self.inside.held.rules c.self.inside.held c.judge-verdict.result c.args.budget.now c.answer_of-state.new.budget c.answer_of-state.result.0 c.answer_of-state.result.1 c.self.invariant.visited c.judge-verdict.ensures answers

pub returns-clause-entry : goal.returns-clause-entry
returns-clause-entry c =
    let held = c.self.inside.held in
    let asked = rw (← c.self.view_is) at c.requires in
    let answers = rw c.length.ensures.value at c.answer_of-state.ensures in
    subst (λ q. Advances q c.args.budget.now c.answer_of-state.result.1 (search_of c.answer_of-state.result.0 c.self.inside.held.rules held) c.answer_of-state.new.budget) c.self.view_is (advances (search_of c.self.inside.state c.self.inside.held.rules held) held (asked_on c.self.inside.state c.self.inside.held.rules held.system held.path asked) refl c.judge-verdict.result c.args.budget.now c.answer_of-state.new.budget c.answer_of-state.result.0 c.answer_of-state.result.1 c.judge-verdict.ensures answers)

pub returns-clause-answer : goal.returns-clause-answer
returns-clause-answer c =
    answer_of c.args.self.now _ c.args.budget.now c.answer_of-state.new.budget c.answer_of-state.result.1 (returns-clause-entry c) (λ h. stands c.answer_of-state.result.0 c.self.inside.held.rules c.self.inside.held _ c.length.ensures.system (rw c.length.ensures.value at c.length.ensures.within) c.self.invariant.visited h)
