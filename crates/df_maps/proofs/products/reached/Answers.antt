use Rattle.std.proofs.Common.{◌≡◌, ◌%◌, ℕ, suc, ◌+◌, ◌∙◌, ap, sym, true, arith, subst, eq-eqb, eqb-true, ⊎_elim, mod-lt, []}
use Rattle.df_lists.specs.Membership.{In}
use Rattle.df_lists.specs.NumberSets.{has_member, with_member}
use Rattle.df_lists.proofs.SetLaws.{In-set, same_sets, set_longer}
use Rattle.df_lists.proofs.TestLaws.{same_tests, has_from, has_gives}
use Rattle.df_maps.specs.Products.{products, products_within}
use Rattle.df_maps.proofs.MarkSteps.{has_one_more}
use Rattle.df_maps.proofs.ProductLaws.{products_one, products_first, one_in, step_cases, within_set, products_end, products_are}
use Rattle.df_maps.proofs.products.reached.Goals as goal

pub insert-requires : goal.insert-requires
insert-requires c = let low = mod-lt 1 c.requires.some in omega (arith, low, c.requires.small)

pub loop-pass-init : goal.loop-pass-init
loop-pass-init c =
    let e = c.args.exponent in
    let ms = c.args.mults.now in
    let now : c.insert.new.self ≡ with_member (1 % e) [] = c.insert.ensures.list ∙ ap (with_member (1 % e)) c.empty-reached.ensures.list in
    record {
      set = c.insert.ensures.set;
      all = λ r i. ap (λ l. has_member l r) now ∙ has_one_more [] (1 % e) r ∙ eq-eqb (1 % e) r (products_first e ms c.requires.some r i);
      only = λ r h. subst (In (products e ms)) (eqb-true (1 % e) r (sym (ap (λ l. has_member l r) now ∙ has_one_more [] (1 % e) r) ∙ h)) (products_one e ms c.requires.some);
    }

pub loop-pass-preserved : goal.loop-pass-preserved
loop-pass-preserved c =
    let e = c.args.exponent in
    let ms = c.args.mults.now in
    let next : suc c.loop-pass.pass ≡ c.loop-pass.pass + 1 = omega arith in
    record {
      set = c.multiply.ensures.set;
      all = λ r i.
          ⊎_elim (λ h. c.multiply.ensures.stay r (c.loop-pass.invariant.all r (subst (In (products_within e ms c.loop-pass.pass)) h (one_in e ms c.requires.some c.loop-pass.pass))))
          (λ s. subst (λ r. has_member c.multiply.new.reached r ≡ true) s.4 (c.multiply.ensures.more s.0 s.1 s.2 (In-set e (products_within e ms c.loop-pass.pass) s.1 (within_set e ms c.requires.some c.loop-pass.pass) s.3) (c.loop-pass.invariant.all s.1 s.3)))
          (step_cases e ms c.requires.some c.loop-pass.pass r (subst (λ n. In (products_within e ms n) r) (sym next) i));
      only = c.multiply.ensures.only;
    }

pub returns : goal.returns
returns c =
    let e = c.args.exponent in
    let ms = c.args.mults.now in
    let now = c.loop-pass.reached in
    let end : c.loop-pass.pass ≡ e = omega arith in
    let all : (r : ℕ) → In (products e ms) r → has_member now r ≡ true = λ r i. c.loop-pass.invariant.all r (subst (λ n. In (products_within e ms n) r) (sym end) (products_end e ms c.requires.some r i)) in
    same_sets 128 now (products e ms) c.loop-pass.invariant.set (set_longer e 128 (products e ms) c.requires.small (products_are e ms c.requires.some).set)
    (λ r l. same_tests (has_member now r) (has_member (products e ms) r) (λ h. has_from (products e ms) r (c.loop-pass.invariant.only r h)) (λ h. all r (has_gives (products e ms) r h)))
