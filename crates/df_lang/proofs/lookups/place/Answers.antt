use Rattle.std.proofs.Common.{sym, ap, ◌∙◌, ℕ, List, position, bytes_eq}
use Rattle.std.specs.Map.{keys_of}
use Rattle.arrayvec.specs.ArrayVec.{ArrayVec}
use Rattle.df_lang.proofs.NamePlaces.{place_too_long, place_of_key}
use Rattle.df_lang.proofs.lookups.place.Goals as goal

pub returns-then-token-gt16-clause-place : goal.returns-then-token-gt16-clause-place
returns-then-token-gt16-clause-place c = sym (place_too_long c.args.token.now _ c.if-token-gt16.true c.requires)

pub returns-clause-place : goal.returns-clause-place
returns-clause-place c =
    c.get_index_of.ensures.index
    ∙ ap (λ (t : List ℕ). position (λ (k : ArrayVec ℕ). bytes_eq t k.items) (keys_of c.args.names.now.entries)) c.name.ensures
    ∙ place_of_key c.args.token.now c.args.names.now.entries
