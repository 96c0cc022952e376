-- Lists of maps that act on things of one kind, and the orbits that they make.
use Rattle.std.specs.Prelude.{◌≡◌, ℕ, Bool, ◌&&◌, List}
use Rattle.std.specs.List.{list_any}
use Rattle.df_lists.specs.Membership.{In, count}

-- on the things that D allows: the maps lead to such things, one of them moves nothing, and there is a map for two in turn and one that takes each back
pub record IsMapGroup {M X : Type 0} (act : M → X → X) (D : X → Type 0) (maps : List M) : Type 0 where
  pub stays : (g : M) → In maps g → (x : X) → D x → D (act g x)
  pub one : (e : M) × In maps e × ((x : X) → D x → act e x ≡ x)
  pub times : (f g : M) → In maps f → In maps g → (h : M) × In maps h × ((x : X) → D x → act h x ≡ act f (act g x))
  pub back : (g : M) → In maps g → (h : M) × In maps h × ((x : X) → D x → act h (act g x) ≡ x) × ((x : X) → D x → act g (act h x) ≡ x)

-- the list has things that D allows, each once, and the maps don't lead out of it
pub record IsSpread {M X : Type 0} (eq : X → X → Bool) (act : M → X → X) (D : X → Type 0) (maps : List M) (xs : List X) : Type 0 where
  pub inside : (x : X) → In xs x → D x
  pub once : (x : X) → In xs x → count (eq x) xs ≡ 1
  pub moves : (g : M) → In maps g → (x : X) → In xs x → In xs (act g x)

-- two things are in one orbit where a map carries one to the other
abbrev pub in_one_orbit_by : {M X : Type 0} → (X → X → Bool) → (M → X → X) → List M → X → X → Bool
in_one_orbit_by eq act maps x y = list_any (λ g. eq (act g x) y) maps

-- how many of the blocks are in the orbit of y and hold x
abbrev pub entry : {M X : Type 0} → (X → X → Bool) → (M → X → X) → List M → (X → X → Bool) → List X → X → X → ℕ
entry eq act maps holds blocks x y = count (λ b. in_one_orbit_by eq act maps b y && holds b x) blocks

-- how many of the pairs are in the orbit of x and lie in y
abbrev pub held : {M X : Type 0} → (X → X → Bool) → (M → X → X) → List M → (X → X → Bool) → List X → X → X → ℕ
held eq act maps holds pairs x y = count (λ p. in_one_orbit_by eq act maps p x && holds y p) pairs
