use Rattle.df_acting.proofs.ImageLaws.{image_group, length-image, holds_kept}
use Rattle.df_acting.proofs.images_are_moved.Goals as goal

pub returns : goal.returns
returns c = λ act v maps G. record {
  group = image_group act v maps G;
  long = length-image act v maps G;
  holds_too = holds_kept act v maps G;
}
