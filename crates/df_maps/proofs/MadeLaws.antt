-- The products of units with a subgroup's members are a group of maps.
use Rattle.std.proofs.Common.{◌≡◌, ℕ, ◌+◌, ◌*◌, ◌%◌, ◌<◌, ◌≤◌, ◌++◌, true, List, [], ◌∷◌, sym, ap, ◌∙◌, subst, arith, mod-eq_of_lt, mul_assoc, one-mul}
use Rattle.std.proofs.lemmas.Nat.{mul-mod_first, mul-mod_second}
use Rattle.df_lists.specs.Membership.{In}
use Rattle.df_group.specs.Elements.{group_of, order_of, IsShape}
use Rattle.df_group.specs.Subgroups.{exponent_of, is_unit, IsSubgroup}
use Rattle.df_group.specs.Multiples.{AreUnits}
use Rattle.df_group.proofs.ElementLaws.{positive_shape}
use Rattle.df_group.proofs.ExponentLaws.{exponent_some, exponent_low}
use Rattle.df_group.proofs.MultipleLaws.{are_units}
use Rattle.df_lists.proofs.TestLaws.{has_from, has_gives}
use Rattle.df_maps.specs.Products.{product_of, AllIn, products, AreProducts}
use Rattle.df_maps.specs.FullMaps.{IsMaps, maps_of}
use Rattle.df_maps.proofs.ProductLaws.{products_are}
use Rattle.df_maps.proofs.SubgroupSums.{HasSums, subgroup_has}

product_append : (ms ls : List ℕ) → product_of (ms ++ ls) ≡ product_of ms * product_of ls
product_append [] ls = sym (one-mul (product_of ls))
product_append (m ∷ ms) ls = ap (λ n. m * n) (product_append ms ls) ∙ sym (mul_assoc m (product_of ms) (product_of ls))

all-append : (stated ms ls : List ℕ) → AllIn stated ms → AllIn stated ls → AllIn stated (ms ++ ls)
all-append stated [] ls x y = y
all-append stated (m ∷ ms) ls x y = (x.0, all-append stated ms ls x.1 y)

module _ (fs : List ℕ) (fixed : ℕ) (shifts stated : List ℕ) (is : IsShape fs) (small : order_of fs + fixed ≤ 128) (s : IsSubgroup fs shifts) (units : (m : ℕ) → In stated m → is_unit (exponent_of fs) m ≡ true) where
  pos : 0 < exponent_of fs
  pos = exponent_some fs (positive_shape fs is)

  P : AreProducts (exponent_of fs) stated (products (exponent_of fs) stated)
  P = products_are (exponent_of fs) stated pos

  U : AreUnits fs
  U = are_units fs is

  H : HasSums fs is shifts
  H = subgroup_has fs is shifts s

  product_unit : (ms : List ℕ) → AllIn stated ms → is_unit (exponent_of fs) (product_of ms) ≡ true
  product_unit [] i = U.one
  product_unit (m ∷ ms) i = U.product m (product_of ms) (units m i.0) (product_unit ms i.1)

  product_in : (m l : ℕ) → In (products (exponent_of fs) stated) m → In (products (exponent_of fs) stated) l → In (products (exponent_of fs) stated) ((m * l) % exponent_of fs)
  product_in m l i j =
      let ms = P.inside m i in
      let ls = P.inside l j in
      subst (In (products (exponent_of fs) stated))
      (ap (λ n. n % exponent_of fs) (product_append ms.0 ls.0) ∙ sym (mul-mod_first (product_of ms.0) (product_of ls.0) (exponent_of fs)) ∙ sym (mul-mod_second (product_of ms.0 % exponent_of fs) (product_of ls.0) (exponent_of fs)) ∙ ap (λ n. (n * (product_of ls.0 % exponent_of fs)) % exponent_of fs) ms.2 ∙ ap (λ n. (m * n) % exponent_of fs) ls.2)
      (P.all (ms.0 ++ ls.0) (all-append stated ms.0 ls.0 ms.1 ls.1))

  unit_in : (m : ℕ) → In (products (exponent_of fs) stated) m → is_unit (exponent_of fs) m ≡ true
  unit_in m i = let ms = P.inside m i in ap (is_unit (exponent_of fs)) (sym ms.2) ∙ U.reduced (product_of ms.0) ∙ product_unit ms.0 ms.1

  one_in : In (products (exponent_of fs) stated) 1
  one_in = let low = exponent_low fs is in subst (In (products (exponent_of fs) stated)) (mod-eq_of_lt (omega (arith, low))) (P.all [] tt)

  pub made : IsMaps (maps_of fs fixed shifts stated)
  made = record {
    shape = is;
    small = small;
    products_set = P.set;
    one = has_from (products (exponent_of fs) stated) 1 one_in;
    product = λ m l h k. has_from (products (exponent_of fs) stated) ((m * l) % exponent_of fs) (product_in m l (has_gives (products (exponent_of fs) stated) m h) (has_gives (products (exponent_of fs) stated) l k));
    units = λ m h. unit_in m (has_gives (products (exponent_of fs) stated) m h);
    shifts_set = H.set;
    zero = has_from shifts 0 H.zero;
    sum = λ h k i j. has_from shifts ((group_of fs).plus h k) (H.sum h k (has_gives shifts h i) (has_gives shifts k j));
  }
