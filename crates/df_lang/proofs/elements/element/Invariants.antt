use Rattle.std.proofs.Common.{◌≡◌, ◌≤◌, ◌+◌, ◌*◌, drop, option_copied}
use Rattle.df_group.specs.Elements.{order_of}
use Rattle.df_lang.specs.Values.{element_of}
use Rattle.df_lang.specs.Pieces.{pieces_left}
use Rattle.df_lang.proofs.ElementPieces.{element_from}
use Rattle.df_lang.proofs.elements.element.Given as goal

abbrev pub invariant-loop-f : goal.invariant-loop-f
invariant-loop-f l =
    (element_from (drop l.f-index l.shape) (pieces_left (option_copied l.rest)) l.place ≡ element_of l.shape l.token)
    × ((l.place + 1) * order_of (drop l.f-index l.shape) ≤ order_of l.shape)
