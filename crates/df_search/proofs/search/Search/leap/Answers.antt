use Rattle.std.proofs.Common.{◌≡◌, ◌+◌, ◌-◌, ◌*◌, ◌∙◌, ap, arith, length}
use Rattle.df_walk.specs.Systems.{widest}
use Rattle.df_search.proofs.LeapSteps.{leaps_visited}
use Rattle.df_search.proofs.SearchSteps.{asked_again, asked_fit, asked_path}
use Rattle.df_search.proofs.StandingPaths.{length-nos}
use Rattle.df_search.proofs.PassedLeaps.{PassesLeap, passes_leap}
use Rattle.df_search.specs.Searches.{search_of, path_at}
use Rattle.df_search.proofs.search.Search.leap.Goals as goal
use Rattle.df_search.proofs.search.Search.leap.Goals.{After-leap}
use Rattle.df_search.proofs.search.Search.leap.Given.{Over}

passed : (g : Over) (c : After-leap g) → PassesLeap (search_of c.self.inside.state c.self.inside.held.rules c.self.inside.held) c.args.budget.now (search_of c.self.inside.state c.self.inside.held.rules c.leap.new.self) (c.args.budget.now - c.leap.result) c.leap.result
passed g c =
    let i = c.self.inside in
    let asked = rw (← c.self.view_is) at c.requires in
    passes_leap i.state i.held.rules i.held c.leap.new.self c.leap.result c.args.budget.now (c.args.budget.now - c.leap.result) asked c.leap.ensures.value c.leap.ensures.leaps (omega (arith, c.leap.ensures.most))

longer : (g : Over) (c : After-leap g) → length c.leap.new.self.path ≡ length c.self.inside.held.path + c.leap.result
longer g c = ap (λ v. length v.path) c.leap.ensures.value ∙ length-nos c.self.inside.held.path c.leap.result

-- the paths that are seen are those that are held
seen : (g : Over) (c : After-leap g) → (path_at c.self.inside.state c.self.inside.held.path ≡ c.self.inside.held.path) × (path_at c.self.inside.state c.leap.new.self.path ≡ c.leap.new.self.path)
seen g c =
    let i = c.self.inside in
    let asked = rw (← c.self.view_is) at c.requires in
    (asked_path i.state i.held.path asked, asked_path i.state c.leap.new.self.path (asked_again i.state i.held.path c.leap.new.self.path asked))

pub invariant_of-self : goal.invariant_of-self
invariant_of-self g c =
    let i = c.self.inside in
    let asked = rw (← c.self.view_is) at c.requires in
    rw (c.leap.ensures.value) (record { visited = leaps_visited i.held.rules i.held.system c.leap.result i.held.path c.leap.ensures.leaps c.self.invariant.visited; fit = asked_fit i.state i.held.rules i.held.system i.held.path _ asked })

pub returns-then-is_branch-clause-passes : goal.returns-then-is_branch-clause-passes
returns-then-is_branch-clause-passes g c = rw (← c.self.view_is, ap (λ v. v.rules) c.leap.ensures.value) (passed g c).passes

pub returns-then-is_branch-clause-count : goal.returns-then-is_branch-clause-count
returns-then-is_branch-clause-count g c = rw (← c.self.view_is, ap (λ v. v.rules) c.leap.ensures.value) (omega (arith, longer g c, ap length (seen g c).0, ap length (seen g c).1, (passed g c).count))

pub returns-then-is_branch-clause-cost : goal.returns-then-is_branch-clause-cost
returns-then-is_branch-clause-cost g c =
    let w = widest c.self.inside.held.system.columns in
    rw (← c.self.view_is) (omega (arith, ap (λ n. w * n) (longer g c), ap (λ p. w * length p) (seen g c).0, ap (λ p. w * length p) (seen g c).1, c.leap.ensures.cost))
