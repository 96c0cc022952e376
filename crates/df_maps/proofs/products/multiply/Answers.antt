use Rattle.std.proofs.Common.{◌≡◌, ◌*◌, ◌%◌, ℕ, ◌∙◌, sym, false, true, eqb, arith, subst, eq-eqb, eqb-true, ⊎_elim, refl}
use Rattle.std.proofs.lemmas.Bool.{or_left, or_right, or_cases, cases_lt, both_ways}
use Rattle.std.specs.List.{list_any}
use Rattle.df_lists.specs.Membership.{In}
use Rattle.df_lists.specs.NumberSets.{has_member}
use Rattle.df_maps.specs.Products.{products}
use Rattle.df_lists.proofs.TestLaws.{any_from, any_gives}
use Rattle.df_maps.proofs.ProductLaws.{products_step}
use Rattle.df_maps.proofs.products.multiply.Goals as goal

pub loop-r-preserved : goal.loop-r-preserved
loop-r-preserved c =
    let e = c.args.exponent in
    let ms = c.args.mults.now in
    let now = c.loop-r.reached in
    let made = λ (j : ℕ). λ (m : ℕ). eqb ((m * c.loop-r.r) % e) j in
    let marked : has_member now c.loop-r.r ≡ true = sym c.has.ensures ∙ c.if-not-has.false in
    let stays = λ (j : ℕ) (h : has_member now j ≡ true). c.multiply_one.ensures.members j ∙ or_left (has_member now j) (list_any (made j) ms) h in
    record {
      set = c.multiply_one.ensures.set;
      stay = λ r h. stays r (c.loop-r.invariant.stay r h);
      more = λ m r i l h.
          ⊎_elim (λ k. stays ((m * r) % e) (c.loop-r.invariant.more m r i k h))
          (λ k. let same : c.loop-r.r ≡ r = omega (arith, k, l) in
          subst (λ r. has_member c.multiply_one.new.reached ((m * r) % e) ≡ true) same
          (c.multiply_one.ensures.members ((m * c.loop-r.r) % e) ∙ or_right (has_member now ((m * c.loop-r.r) % e)) (list_any (made ((m * c.loop-r.r) % e)) ms) (any_from (made ((m * c.loop-r.r) % e)) ms m i (eq-eqb ((m * c.loop-r.r) % e) ((m * c.loop-r.r) % e) refl))))
          (cases_lt r c.loop-r.r);
      only = λ r h.
          ⊎_elim (λ k. c.loop-r.invariant.only r k)
          (λ k. let m = any_gives (made r) ms k in subst (In (products e ms)) (eqb-true ((m.0 * c.loop-r.r) % e) r m.2) (products_step e ms c.requires.some m.0 c.loop-r.r m.1 (c.loop-r.invariant.only c.loop-r.r marked)))
          (or_cases (has_member now r) (list_any (made r) ms) (sym (c.multiply_one.ensures.members r) ∙ h));
    }

pub loop-r-preserved-then-not-has : goal.loop-r-preserved-then-not-has
loop-r-preserved-then-not-has c =
    let e = c.args.exponent in
    let out : has_member c.loop-r.reached c.loop-r.r ≡ false = sym c.has.ensures ∙ c.if-not-has.true in
    record {
      set = c.loop-r.invariant.set;
      stay = c.loop-r.invariant.stay;
      more = λ m r i l h.
          ⊎_elim (λ k. c.loop-r.invariant.more m r i k h)
          (λ k. let same : c.loop-r.r ≡ r = omega (arith, k, l) in absurd (both_ways (has_member c.loop-r.reached c.loop-r.r) out (c.loop-r.invariant.stay c.loop-r.r (subst (λ r. has_member c.args.reached.now r ≡ true) (sym same) h))))
          (cases_lt r c.loop-r.r);
      only = c.loop-r.invariant.only;
    }
