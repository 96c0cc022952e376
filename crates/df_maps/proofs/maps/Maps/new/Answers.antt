use Rattle.std.proofs.Common.{◌≡◌, ◌∙◌, ap, sym, refl, subst, List, ℕ, true}
use Rattle.df_lists.proofs.ListPlaces.{all_members}
use Rattle.df_group.specs.Subgroups.{exponent_of, is_unit}
use Rattle.df_maps.specs.Products.{products}
use Rattle.df_maps.specs.FullMaps.{IsMaps}
use Rattle.df_maps.proofs.SubgroupSums.{subgroup_has}
use Rattle.df_maps.proofs.MadeLaws.{made}
use Rattle.df_lists.proofs.SetLaws.{set_picked}
use Rattle.df_group.specs.Elements.{order_of}
use Rattle.df_maps.proofs.MapsFacts.{made_of}
use Rattle.df_maps.proofs.maps.Maps.new.Goals as goal

made_same : (s t ps qs hs ks : List ℕ) (fixed : ℕ) → s ≡ t → ps ≡ qs → hs ≡ ks → made_of s fixed ps hs ≡ made_of t fixed qs ks
made_same s t ps qs hs ks fixed a b c = rw (a, b, c) refl

pub returns : goal.returns
returns c =
    made_same c.copied.result c.args.shape.now c.residues_of_products.result.items (products (exponent_of c.args.shape.now) c.args.mults.now) c.members_of.result.items c.args.shift.now c.args.fixed
    c.copied.ensures (c.residues_of_products.ensures ∙ ap (λ e. products e c.args.mults.now) c.exponent.ensures.exponent) (c.members_of.ensures ∙ sym (set_picked (order_of c.args.shape.now) c.args.shift.now (subgroup_has c.args.shape.now c.exponent.ensures.shape c.args.shift.now c.requires.shift).set))

pub invariant_of-result : goal.invariant_of-result
invariant_of-result c =
    let same = made_same c.copied.result c.args.shape.now c.residues_of_products.result.items (products (exponent_of c.args.shape.now) c.args.mults.now) c.members_of.result.items c.args.shift.now c.args.fixed
    c.copied.ensures (c.residues_of_products.ensures ∙ ap (λ e. products e c.args.mults.now) c.exponent.ensures.exponent) (c.members_of.ensures ∙ sym (set_picked (order_of c.args.shape.now) c.args.shift.now (subgroup_has c.args.shape.now c.exponent.ensures.shape c.args.shift.now c.requires.shift).set)) in
    subst IsMaps (sym same) (made c.args.shape.now c.args.fixed c.args.shift.now c.args.mults.now c.exponent.ensures.shape c.requires.small c.requires.shift (all_members (λ m. is_unit (exponent_of c.args.shape.now) m ≡ true) c.args.mults.now c.requires.units))
