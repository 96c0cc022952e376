use Rattle.std.proofs.Common.{◌<◌, length}
use Rattle.df_check.proofs.Branches.{taken, room}
use Rattle.df_check.proofs.checker.take_up.Goals as goal

pub returns-clause-wanted : goal.returns-clause-wanted
returns-clause-wanted g c =
    let within : c.args.count.now < length c.args.flags.now = room c.args.partial.now.decisions c.args.column c.decided-undecided.result c.decided-undecided.ensures.value c.requires.free (length c.args.partial.now.trail) (length c.args.partial.now.system.columns) c.decided-undecided.ensures.room c.args.count.now (length c.args.flags.now) c.requires.flagged.counted c.requires.flagged.long in
    taken c.wanted_is_kept.ensures c.args.partial.now c.take.new.self c.args.flags.now c.args.count.now c.args.column within c.requires.free c.take.ensures.value
