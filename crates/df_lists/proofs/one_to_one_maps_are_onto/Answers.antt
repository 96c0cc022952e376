use Rattle.df_lists.proofs.OntoMaps.{onto}
use Rattle.df_lists.proofs.one_to_one_maps_are_onto.Goals as goal

pub returns : goal.returns
returns c = onto
