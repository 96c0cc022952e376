-- Integer multiples in a group, and the numbers whose multiplication can be undone.
use Rattle.std.specs.Prelude.{◌≡◌, ℕ, suc, ◌+◌, ◌*◌, ◌%◌, ◌<◌, true, List}
use Rattle.df_group.specs.Elements.{Group, group_of, IsShape}
use Rattle.df_group.specs.Subgroups.{exponent_of, is_unit}

-- the laws of integer multiples, where e times each element is 0
pub record AreMultiples (G : Group) (e : ℕ) : Type 0 where
  pub within : (m a : ℕ) → G.times m a < G.order
  pub none : (a : ℕ) → G.times 0 a ≡ 0
  pub one : (a : ℕ) → a < G.order → G.times 1 a ≡ a
  pub more : (m a : ℕ) → G.times (suc m) a ≡ G.plus a (G.times m a)
  pub sum : (m l a : ℕ) → G.times (m + l) a ≡ G.plus (G.times m a) (G.times l a)
  pub plus : (m a b : ℕ) → G.times m (G.plus a b) ≡ G.plus (G.times m a) (G.times m b)
  pub product : (m l a : ℕ) → G.times (m * l) a ≡ G.times m (G.times l a)
  pub reduced : (m a : ℕ) → G.times (m % e) a ≡ G.times m a

-- multiplying by l undoes multiplying by m, both ways
pub record Undoes (G : Group) (m l : ℕ) : Type 0 where
  pub there : (a : ℕ) → a < G.order → G.times l (G.times m a) ≡ a
  pub back : (a : ℕ) → a < G.order → G.times m (G.times l a) ≡ a

-- the multiples place by place are multiples in the group
abbrev pub MultiplesLaw : Type 0
MultiplesLaw = (fs : List ℕ) → IsShape fs → AreMultiples (group_of fs) (exponent_of fs)

-- 1 and products of units are units, only the remainder by the exponent counts, and multiplying by a unit is undone by multiplying by a unit
pub record AreUnits (fs : List ℕ) : Type 0 where
  pub one : is_unit (exponent_of fs) 1 ≡ true
  pub product : (m l : ℕ) → is_unit (exponent_of fs) m ≡ true → is_unit (exponent_of fs) l ≡ true → is_unit (exponent_of fs) (m * l) ≡ true
  pub reduced : (m : ℕ) → is_unit (exponent_of fs) (m % exponent_of fs) ≡ is_unit (exponent_of fs) m
  pub inverse : (m : ℕ) → is_unit (exponent_of fs) m ≡ true → (l : ℕ) × (is_unit (exponent_of fs) l ≡ true) × ((m * l) % exponent_of fs ≡ 1 % exponent_of fs) × Undoes (group_of fs) m l

abbrev pub UnitsLaw : Type 0
UnitsLaw = (fs : List ℕ) → IsShape fs → AreUnits fs
