use Rattle.std.proofs.Common.{◌≡◌, ◌+◌, ◌*◌, ◌∙◌, ◌∷◌, [], true, length, ap, arith, length-append}
use Rattle.df_walk.specs.Systems.{widest}
use Rattle.df_search.proofs.EventAnswers.{over_answer}
use Rattle.df_search.proofs.search.Search.advance.Goals as goal

pub returns-in-Some-clause-answer : goal.returns-in-Some-clause-answer
returns-in-Some-clause-answer g c = over_answer c.args.budget.now c.in-Some.ensures.some

pub returns-in-Some-clause-cost : goal.returns-in-Some-clause-cost
returns-in-Some-clause-cost g c =
    let w = widest c.args.self.now.system.columns in
    let long : length c.try_yes.new.self.path ≡ length c.args.self.now.path + 1 = ap (λ n. length n.path) c.in-Some.ensures.some.same ∙ length-append c.args.self.now.path (true ∷ []) in
    omega (arith, ap (λ n. w * n) long, c.in-Some.ensures.cost)
