-- The laws, each the contract of a function.
use Rattle.std.specs.Prelude.{◌≡◌, ◌<◌, ℕ, ◌*◌, Bool, true, List, length}
use Rattle.df_lists.specs.Membership.{In, count}
use Rattle.df_lists.specs.NumberSets.{IsSet}
use Rattle.df_lists.specs.Orders.{IsEquality}
use Rattle.df_acting.specs.Orbits.{IsMapGroup, IsSpread, in_one_orbit_by, entry, held}
use Rattle.df_lists.specs.Orders.{IsOrder}
use Rattle.df_acting.specs.Representatives.{is_representative, representative_by}
use Rattle.df_acting.specs.Images.{image, contains}

-- a group of maps of points moves sets of points
pub record AreMoved {M : Type 0} (act : M → ℕ → ℕ) (v : ℕ) (maps : List M) : Type 0 where
  pub group : IsMapGroup (image act v) (IsSet v) maps
  pub long : (g : M) (b : List ℕ) → In maps g → IsSet v b → length (image act v g b) ≡ length b
  pub holds_too : (g : M) → In maps g → (b c : List ℕ) → IsSet v b → IsSet v c → contains (image act v g b) (image act v g c) ≡ contains b c

abbrev pub ImagesAreMoved : Type 0 → Type 0
ImagesAreMoved M = (act : M → ℕ → ℕ) (v : ℕ) (maps : List M) → IsMapGroup act (λ p. p < v) maps → AreMoved act v maps

-- the earliest image is in the orbit and no image of it is earlier, no other member of the orbit is like that, and two things have one earliest image exactly where they are in one orbit
pub record IsOnlyRepresentative {M X : Type 0} (eq before : X → X → Bool) (act : M → X → X) (D : X → Type 0) (maps : List M) : Type 0 where
  pub of_orbit : (x : X) → D x → in_one_orbit_by eq act maps x (representative_by before act maps x) ≡ true
  pub representative : (x : X) → D x → is_representative before act maps (representative_by before act maps x) ≡ true
  pub once : (x y : X) → D x → D y → in_one_orbit_by eq act maps x y ≡ true → is_representative before act maps x ≡ true → is_representative before act maps y ≡ true → x ≡ y
  pub same : (x y : X) → D x → D y → in_one_orbit_by eq act maps x y ≡ eq (representative_by before act maps x) (representative_by before act maps y)

abbrev pub RepresentativesAreOne : Type 0 → Type 0
RepresentativesAreOne M = (eq before : List ℕ → List ℕ → Bool) (act : M → List ℕ → List ℕ) (v : ℕ) (maps : List M) → IsEquality eq → IsOrder before → IsMapGroup act (IsSet v) maps → IsOnlyRepresentative eq before act (IsSet v) maps

-- the counts of one orbit in the members of another
pub record AreQuotients {M X : Type 0} (eq holds : X → X → Bool) (act : M → X → X) (maps : List M) (pairs blocks : List X) (x y : X) : Type 0 where
  pub product : entry eq act maps holds blocks x y * count (λ p. in_one_orbit_by eq act maps p x) pairs ≡ count (λ b. in_one_orbit_by eq act maps b y) blocks * held eq act maps holds pairs x y
  pub same : (z : X) → in_one_orbit_by eq act maps x z ≡ true → entry eq act maps holds blocks z y ≡ entry eq act maps holds blocks x y

abbrev pub EntriesAreQuotients : Type 0 → Type 0
EntriesAreQuotients M = (eq holds : List ℕ → List ℕ → Bool) (act : M → List ℕ → List ℕ) (v : ℕ) (maps : List M) → IsEquality eq → IsMapGroup act (IsSet v) maps → ((g : M) → In maps g → (b p : List ℕ) → IsSet v b → IsSet v p → holds (act g b) (act g p) ≡ holds b p) → (pairs blocks : List (List ℕ)) → IsSpread eq act (IsSet v) maps pairs → IsSpread eq act (IsSet v) maps blocks → (x y : List ℕ) → IsSet v x → IsSet v y → AreQuotients eq holds act maps pairs blocks x y
