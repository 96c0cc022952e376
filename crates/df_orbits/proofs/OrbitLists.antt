-- What is seen of the orbits that are stored.
use Rattle.std.proofs.Common.{◌≡◌, ℕ, ◌<◌, map, List, length, get_or, refl, ap, ◌∙◌, slice_get, Some}
use Rattle.std.proofs.lemmas.Option.{slice_get_read, slice_get-map}
use Rattle.std.specs.Option.{option_map}
use Rattle.df_orbits.specs.Orbits.{listed_representatives, orbit_sizes}
use Rattle.df_orbits.specs.declared.orbits.Orbit.{Orbit}

abbrev pub shown : Orbit → List ℕ × ℕ
shown f = (f.block, f.size)

pub member_at : (items : List Orbit) (i : ℕ) (x : Orbit) → i < length items → x ≡ get_or items i x → slice_get (listed_representatives (map shown items)) i ≡ Some x.block
member_at items i x h at = slice_get-map (λ (c : List ℕ × ℕ). c.0) (map shown items) i ∙ ap (option_map (λ (c : List ℕ × ℕ). c.0)) (slice_get-map shown items i ∙ ap (option_map shown) (slice_get_read items (length items) i x refl h at))

pub size_at : (items : List Orbit) (i : ℕ) (x : Orbit) → i < length items → x ≡ get_or items i x → slice_get (orbit_sizes (map shown items)) i ≡ Some x.size
size_at items i x h at = slice_get-map (λ (c : List ℕ × ℕ). c.1) (map shown items) i ∙ ap (option_map (λ (c : List ℕ × ℕ). c.1)) (slice_get-map shown items i ∙ ap (option_map shown) (slice_get_read items (length items) i x refl h at))
