-- What follows from the laws of a group on numbers.
use Rattle.std.proofs.Common.{◌≡◌, ℕ, ◌<◌, eqb, sym, ap, ◌∙◌}
use Rattle.std.proofs.lemmas.Bool.Decides.{same_from_decides, Decides-eqb}
use Rattle.df_lists.specs.Totals.{Turns}
use Rattle.df_group.specs.Elements.{Group, IsGroup, minus}

module _ (G : Group) (is : IsGroup G) where
  -- a + c - c
  pub more_less : (a c : ℕ) → a < G.order → minus G (G.plus a c) c ≡ a
  more_less a c h = is.assoc a c (G.neg c) ∙ ap (G.plus a) (is.neg c) ∙ is.zero a h

  -- a - c + c
  pub less_more : (a c : ℕ) → a < G.order → G.plus (minus G a c) c ≡ a
  less_more a c h = is.assoc a (G.neg c) c ∙ ap (G.plus a) (is.comm (G.neg c) c ∙ is.neg c) ∙ is.zero a h

  -- p - (p - g)
  pub minus_minus : (p g : ℕ) → p < G.order → g < G.order → minus G p (minus G p g) ≡ g
  minus_minus p g h k =
      let x = minus G p g in
      let whole : p ≡ G.plus g x = sym (less_more p g h) ∙ is.comm x g in
      ap (λ y. G.plus y (G.neg x)) whole ∙ more_less g x k

  -- p - a - b
  pub minus_plus : (p a b : ℕ) → p < G.order → minus G (minus G p a) b ≡ minus G p (G.plus a b)
  minus_plus p a b h =
      let x = minus G (minus G p a) b in
      let whole : p ≡ G.plus x (G.plus a b) = sym (less_more p a h) ∙ ap (λ y. G.plus y a) (sym (less_more (minus G p a) b (is.within p (G.neg a)))) ∙ is.assoc x b a ∙ ap (G.plus x) (is.comm b a) in
      sym (more_less x (G.plus a b) (is.within (minus G p a) (G.neg b))) ∙ ap (λ y. minus G y (G.plus a b)) (sym whole)

  -- q - g is as far from p - g as q is from p
  pub far : (p q g : ℕ) → q < G.order → minus G q g ≡ G.plus (minus G p g) (minus G q p)
  far p q g h =
      let d = minus G q p in
      let ng = G.neg g in
      ap (λ y. G.plus y ng) (sym (less_more q p h)) ∙ is.assoc d p ng ∙ is.comm d (G.plus p ng)

  pub same_test : (a b d : ℕ) → a < G.order → d < G.order → eqb (minus G a b) d ≡ eqb a (G.plus b d)
  same_test a b d h k =
      same_from_decides (eqb (minus G a b) d) (eqb a (G.plus b d)) (Decides-eqb (minus G a b) d)
      (let at = Decides-eqb a (G.plus b d) in (λ e. ap (λ y. minus G y b) (at.0 e ∙ is.comm b d) ∙ more_less d b k, λ e. at.1 (sym (less_more a b h) ∙ ap (λ y. G.plus y b) e ∙ is.comm d b)))

  pub minus_zero : (a : ℕ) → a < G.order → minus G a 0 ≡ a
  minus_zero a h = ap (λ y. minus G y 0) (sym (is.zero a h)) ∙ more_less a 0 h

  -- a - a
  pub minus_self : (a : ℕ) → minus G a a ≡ 0
  minus_self a = is.neg a

  -- 0 + a
  pub zero_plus : (a : ℕ) → a < G.order → G.plus 0 a ≡ a
  zero_plus a h = is.comm 0 a ∙ is.zero a h

  -- what c adds to is told by the sum
  pub plus_apart : (a b c : ℕ) → a < G.order → b < G.order → G.plus a c ≡ G.plus b c → a ≡ b
  plus_apart a b c h k e = sym (more_less a c h) ∙ ap (λ y. minus G y c) e ∙ more_less b c k

  -- c + a - a
  pub plus_minus : (a c : ℕ) → c < G.order → minus G (G.plus a c) a ≡ c
  plus_minus a c h = ap (λ y. minus G y a) (is.comm a c) ∙ more_less c a h

  -- what adds to 0 is the negative
  pub neg_is : (a b : ℕ) → b < G.order → G.plus a b ≡ 0 → b ≡ G.neg a
  neg_is a b h e = sym (plus_minus a b h) ∙ ap (λ y. minus G y a) e ∙ zero_plus (G.neg a) (is.neg_within a)

  -- a + b + c + d, the two in the middle turned
  pub plus_four : (a b c d : ℕ) → G.plus (G.plus a b) (G.plus c d) ≡ G.plus (G.plus a c) (G.plus b d)
  plus_four a b c d =
      is.assoc a b (G.plus c d) ∙ ap (G.plus a) (sym (is.assoc b c d) ∙ ap (λ y. G.plus y d) (is.comm b c) ∙ is.assoc c b d) ∙ sym (is.assoc a c (G.plus b d))

  -- g goes to p - g and back
  pub turns_minus : (p : ℕ) → p < G.order → Turns G.order (minus G p) (minus G p)
  turns_minus p h = record { within = λ i l. is.within p (G.neg i); within_back = λ i l. is.within p (G.neg i); returns = λ i l. minus_minus p i h l; returns_back = λ i l. minus_minus p i h l }

  -- g goes to g - h and back
  pub turns_less : (c : ℕ) → Turns G.order (λ g. minus G g c) (λ g. G.plus g c)
  turns_less c = record { within = λ i l. is.within i (G.neg c); within_back = λ i l. is.within i c; returns = λ i l. less_more i c l; returns_back = λ i l. more_less i c l }

  -- g goes to g + h and back
  pub turns_more : (c : ℕ) → Turns G.order (λ g. G.plus g c) (λ g. minus G g c)
  turns_more c = record { within = λ i l. is.within i c; within_back = λ i l. is.within i (G.neg c); returns = λ i l. more_less i c l; returns_back = λ i l. less_more i c l }
