use Rattle.std.proofs.Common.{◌≡◌, ℕ, ◌<◌, ◌^◌, Bool, true, false, List, nat_eq, eqb, eq-eqb, ne_eqb, refl, sym, ap, ◌∙◌}
use Rattle.std.specs.Cmp.Lexicographic.{pointwise, same_text, other_text}
use Rattle.df_lists.specs.Bits.{members, weight}
use Rattle.df_lists.proofs.BitLaws.{weight_members}
use Rattle.df_sets.proofs.number_set.NumberSetPartialEq.eq.Goals as goal

-- bits are the same where the lists are
same_bits : (a b : ℕ) → a < 2 ^ 128 → b < 2 ^ 128 → (xs ys : List ℕ) → members a ≡ xs → members b ≡ ys → (v : Bool) → pointwise nat_eq xs ys ≡ v → eqb a b ≡ v
same_bits a b h k xs ys i j true e = eq-eqb a b (sym (weight_members a h) ∙ ap weight (i ∙ same_text xs ys (sym e) ∙ sym j) ∙ weight_members b k)
same_bits a b h k xs ys i j false e = ne_eqb a b (λ s. other_text xs ys (sym e) (sym i ∙ ap members s ∙ j))

pub returns : goal.returns
returns c =
    same_bits c.self.inside.bits c.other.inside.bits c.self.invariant c.other.invariant c.args.self.now c.args.other.now c.self.view_is c.other.view_is (pointwise nat_eq c.args.self.now c.args.other.now) refl
