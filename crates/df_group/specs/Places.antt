-- Each element's number is its place in the list of all elements.
use Rattle.std.specs.Prelude.{◌≡◌, ℕ, ◌<◌, List, length, get_or}
use Rattle.df_group.specs.Elements.{order_of, elements, residues, number, group_of, IsElement, IsGroup, IsShape}

-- numbers and elements tell one another, and the element of number e stands at place e
pub record AreNumbered (fs : List ℕ) : Type 0 where
  pub size : length (elements fs) ≡ order_of fs
  pub at : (e : ℕ) (none : List ℕ) → e < order_of fs → get_or (elements fs) e none ≡ residues fs e
  pub numbered : (e : ℕ) → e < order_of fs → number fs (residues fs e) ≡ e
  pub element : (e : ℕ) → IsElement fs (residues fs e)
  pub placed : (rs : List ℕ) → IsElement fs rs → residues fs (number fs rs) ≡ rs
  pub below : (rs : List ℕ) → IsElement fs rs → number fs rs < order_of fs

abbrev pub ElementsLaw : Type 0
ElementsLaw = (fs : List ℕ) → IsShape fs → AreNumbered fs

-- sums place by place make a group on the numbers
abbrev pub GroupLaw : Type 0
GroupLaw = (fs : List ℕ) → IsShape fs → IsGroup (group_of fs)
