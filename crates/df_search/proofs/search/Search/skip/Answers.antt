use Rattle.std.proofs.Common.{sym}
use Rattle.df_search.proofs.PassedLeaps.{passes_leaf}
use Rattle.df_search.proofs.search.Search.skip.Goals as goal

pub returns-clause-leaf : goal.returns-clause-leaf
returns-clause-leaf c =
    let i = c.self.inside in
    λ _. rw (← c.self.view_is) (passes_leaf i.state i.held.rules i.held (rw (← c.self.view_is) at c.requires) (sym c.if-not-is_dead.ensures))
