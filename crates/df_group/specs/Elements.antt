-- Products of cyclic groups (Beth, Jungnickel and Lenz, Design Theory): an element is a list of residues, one for each factor.
use Rattle.std.specs.Prelude.{◌≡◌, ℕ, ◌+◌, ◌-◌, ◌*◌, ◌/◌, ◌%◌, ◌<◌, ◌≤◌, List, [], ◌∷◌, map, All, length, nat_lt, if◌then◌else◌}
use Rattle.std.specs.List.{flat_map, range_with_len}

-- how many elements there are
abbrev pub order_of : List ℕ → ℕ
order_of [] = 1
order_of (f ∷ fs) = f * order_of fs

-- all elements, the first factor first
abbrev pub elements : List ℕ → List (List ℕ)
elements [] = [] ∷ []
elements (f ∷ fs) = flat_map (λ r. map (λ e. r ∷ e) (elements fs)) (range_with_len 0 f)

-- one residue below each factor
abbrev pub IsElement : List ℕ → List ℕ → Type 0
IsElement [] rs = rs ≡ []
IsElement (f ∷ fs) [] = ⊥
IsElement (f ∷ fs) (r ∷ rs) = (r < f) × IsElement fs rs

-- the number of an element: its place among all elements
abbrev pub number : List ℕ → List ℕ → ℕ
number [] rs = 0
number (f ∷ fs) [] = 0
number (f ∷ fs) (r ∷ rs) = r * order_of fs + number fs rs

-- the element of a number
abbrev pub residues : List ℕ → ℕ → List ℕ
residues [] e = []
residues (f ∷ fs) e = (e / order_of fs) % f ∷ residues fs (e % order_of fs)

-- the sum, place by place
abbrev pub sum_of : List ℕ → List ℕ → List ℕ → List ℕ
sum_of [] rs ss = []
sum_of (f ∷ fs) [] ss = []
sum_of (f ∷ fs) (r ∷ rs) [] = []
sum_of (f ∷ fs) (r ∷ rs) (s ∷ ss) = (r + s) % f ∷ sum_of fs rs ss

-- the negative, place by place
abbrev pub negative_of : List ℕ → List ℕ → List ℕ
negative_of [] rs = []
negative_of (f ∷ fs) [] = []
negative_of (f ∷ fs) (r ∷ rs) = (f - r) % f ∷ negative_of fs rs

-- the integer multiple, place by place
abbrev pub multiple_of : List ℕ → ℕ → List ℕ → List ℕ
multiple_of [] m rs = []
multiple_of (f ∷ fs) m [] = []
multiple_of (f ∷ fs) m (r ∷ rs) = (m * r) % f ∷ multiple_of fs m rs

-- a group on the numbers below its order
pub record Group : Type 0 where
  pub order : ℕ
  pub plus : ℕ → ℕ → ℕ
  pub neg : ℕ → ℕ
  pub times : ℕ → ℕ → ℕ

abbrev pub minus : Group → ℕ → ℕ → ℕ
minus G a b = G.plus a (G.neg b)

-- x -> x + h on elements; each number from the order on stays, as fixed points do
abbrev pub shifted : Group → ℕ → ℕ → ℕ
shifted G h p = if nat_lt p G.order then G.plus p h else p

-- the product of the cyclic groups of these orders, on the numbers of its elements
abbrev pub group_of : List ℕ → Group
group_of fs = record {
  order = order_of fs;
  plus = λ a b. number fs (sum_of fs (residues fs a) (residues fs b));
  neg = λ a. number fs (negative_of fs (residues fs a));
  times = λ m a. number fs (multiple_of fs m (residues fs a));
}

-- the laws of a finite abelian group with integer multiples
pub record IsGroup (G : Group) : Type 0 where
  pub some : 0 < G.order
  pub within : (a b : ℕ) → G.plus a b < G.order
  pub comm : (a b : ℕ) → G.plus a b ≡ G.plus b a
  pub assoc : (a b c : ℕ) → G.plus (G.plus a b) c ≡ G.plus a (G.plus b c)
  pub zero : (a : ℕ) → a < G.order → G.plus a 0 ≡ a
  pub neg : (a : ℕ) → G.plus a (G.neg a) ≡ 0
  pub neg_within : (a : ℕ) → G.neg a < G.order

abbrev pub IsFactor : ℕ → Type 0
IsFactor f = (2 ≤ f) × (f ≤ 128)

-- the factors of a group within the limits
pub record IsShape (fs : List ℕ) : Type 0 where
  pub some : 0 < length fs
  pub few : length fs ≤ 7
  pub factors : All IsFactor fs
  pub small : order_of fs ≤ 128
