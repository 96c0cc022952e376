use Rattle.std.proofs.Common.{◌+◌, ◌*◌, ◌≤◌, length, arith, mul-le-mul_left}
use Rattle.df_walk.specs.Systems.{widest}
use Rattle.df_search.specs.Searches.{search_of, path_at}
use Rattle.df_search.proofs.SearchSteps.{came, came_none, path_longer, ready, same_search, same_end}
use Rattle.df_search.proofs.search.Search.come.Goals as goal

pub go_on-requires : goal.go_on-requires
go_on-requires g c = ready c.self.inside.state c.self.inside.held.rules c.self.inside.held.system c.self.inside.held.path c.self.invariant.fit

pub returns-then-not-go_on-clause-none : goal.returns-then-not-go_on-clause-none
returns-then-not-go_on-clause-none g c =
    let held = c.self.inside.held in
    let none = came_none c.self.inside.state c.self.inside.held.rules held.system held.path c.go_on.new.held.path c.if-not-go_on.ensures.comes in
    λ _. rw (← c.self.view_is, c.if-not-go_on.ensures.rules) (none.0, same_end (search_of c.self.inside.state c.self.inside.held.rules held) c.go_on.new.held c.if-not-go_on.ensures.system none.1)

pub invariant_of-self-2 : goal.invariant_of-self-2
invariant_of-self-2 g c =
    let held = c.self.inside.held in
    let at = came c.self.inside.state c.self.inside.held.rules held.system held.path c.go_on.new.held.path c.self.invariant.visited c.self.invariant.fit c.if-not-go_on.ensures.comes in
    record { visited = rw (c.if-not-go_on.ensures.system, c.if-not-go_on.ensures.rules) at.visited; fit = tt }

pub returns-clause-some : goal.returns-clause-some
returns-clause-some g c =
    let held = c.self.inside.held in
    let at = came c.self.inside.state c.self.inside.held.rules held.system held.path c.go_on.new.held.path c.self.invariant.visited c.self.invariant.fit c.if-not-go_on.ensures.comes in
    λ _. rw (← c.self.view_is, c.if-not-go_on.ensures.rules) (same_search (search_of c.self.inside.state c.self.inside.held.rules held) c.go_on.new.held at.left_on c.if-not-go_on.ensures.system)

pub returns-clause-cost : goal.returns-clause-cost
returns-clause-cost g c =
    let i = c.self.inside in
    let w = widest i.held.system.columns in
    let long : length i.held.path + 2 ≤ length (path_at i.state i.held.path) + 2 = omega (arith, path_longer i.state i.held.path) in
    let more : w * (length i.held.path + 2) ≤ w * (length (path_at i.state i.held.path) + 2) = mul-le-mul_left w long in
    rw (← c.self.view_is) (omega (arith, more, c.if-not-go_on.ensures.cost))
