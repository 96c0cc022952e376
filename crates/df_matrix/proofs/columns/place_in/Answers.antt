use Rattle.std.proofs.Common.{Err}
use Rattle.std.proofs.lemmas.List.Sorted.{searched}
use Rattle.df_lists.proofs.RisingLists.{increasing_order}
use Rattle.df_matrix.proofs.PlaceLists.{not_listed}
use Rattle.df_matrix.proofs.columns.place_in.Goals as goal

pub returns-in-Err-clause-none : goal.returns-in-Err-clause-none
returns-in-Err-clause-none c = λ none i.
    let r = searched c.args.numbers.now c.args.number (Err c.in-Err.field-0) c.in-Err.ensures.position (increasing_order c.args.numbers.now c.requires.increasing) in
    not_listed c.args.numbers.now c.args.number c.in-Err.field-0 r.1 r.2 i
