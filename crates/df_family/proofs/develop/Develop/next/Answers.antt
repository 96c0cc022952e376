use Rattle.std.proofs.Common.{◌+◌, ◌-◌, ◌∷◌, List, ℕ, drop, ap, sym, ◌∙◌, subst, arith}
use Rattle.std.specs.List.{range_with_len}
use Rattle.df_group.specs.Elements.{order_of}
use Rattle.df_lang.specs.declared.pieces.Member.{Member}
use Rattle.df_group.proofs.ElementLaws.{is_group}
use Rattle.df_group.proofs.SubgroupLaws.{subgroup_closed}
use Rattle.df_family.specs.Remainders.{is_listed_shift, rest_from, IsListedOf}
use Rattle.df_family.proofs.RemainderLaws.{found, listed_at_start, none_found, rest_later, rest_last}
use Rattle.df_family.proofs.develop.Develop.next.Goals as goal
use Rattle.df_family.proofs.develop.Develop.next.Goals.{in-Some, in-None}

pub overflow_add-self-inside : goal.overflow_add-self-inside
overflow_add-self-inside c = omega (arith, c.member_at.ensures.rules.shape.small, c.self.invariant.below)

pub overflow_add-self : goal.overflow_add-self
overflow_add-self c = omega (arith, c.member_at.ensures.rules.few_blocks, c.in_ok-member.ensures.within)

pub invariant_of-self : goal.invariant_of-self
invariant_of-self c =
    let s = c.self.inside.problem.now in
    let m = c.in_ok-member.member in
    let shifts = c.self.inside.shifts in
    let f = found (is_listed_shift s shifts m.kind m.block) (c.self.inside.shift + 1) (order_of s.group) c.in-Some.shift (sym c.in-Some.ensures) in
    record {
      subgroup = c.self.invariant.subgroup;
      within = c.self.invariant.within;
      below = omega (arith, c.shift.view_is, f.within);
      listed = subst (λ (g : ℕ). IsListedOf s shifts (drop c.self.inside.member s.family) g) (sym c.shift.view_is) (subst (λ (l : List Member). IsListedOf s shifts l c.in-Some.shift) (sym c.in_ok-member.ensures.member) f.passes);
      fixes = c.self.invariant.fixes;
    }

pub invariant_of-self-in-None : goal.invariant_of-self-in-None
invariant_of-self-in-None c =
    let s = c.self.inside.problem.now in
    let shifts = c.self.inside.shifts in
    let rules = c.member_at.ensures.rules in
    record {
      subgroup = c.self.invariant.subgroup;
      within = omega (arith, c.in_ok-member.ensures.within);
      below = (is_group s.group rules.shape).some;
      listed = listed_at_start s shifts (drop (c.self.inside.member + 1) s.family) (subgroup_closed s.group rules.shape shifts c.self.invariant.subgroup).zero;
      fixes = c.fixing_of-self-inside.ensures.fixing;
    }

pub returns : goal.returns
returns c =
    let s = c.self.inside.problem.now in
    let i = c.self.inside.member in
    let g = c.self.inside.shift in
    let m = c.in_ok-member.member in
    let ms = drop (i + 1) s.family in
    let shifts = c.self.inside.shifts in
    let test = is_listed_shift s shifts m.kind m.block in
    let block = c.translated-block.result in
    let here = c.in_ok-member.ensures.member in
    let listed = subst (λ (l : List Member). IsListedOf s shifts l g) here c.self.invariant.listed in
    let start = sym c.self.view_is ∙ ap (λ (l : List Member). rest_from s shifts l g) here in
    elim c.match-next_listed.branch [
      | in-Some w ↦
          let x = w.in-Some.shift in
          let f = found test (g + 1) (order_of s.group) x (sym w.in-Some.ensures) in
          start ∙ rest_later s shifts m ms g c.self.invariant.below listed x f
          ∙ ap (λ (b : List ℕ). b ∷ rest_from s shifts (m ∷ ms) x) (sym c.translated-block.ensures)
          ∙ ap (λ (l : List Member). block ∷ rest_from s shifts l x) (sym here)
          ∙ ap (λ (l : List (List ℕ)). block ∷ l) (ap (rest_from s shifts (drop i s.family)) (sym w.shift.view_is) ∙ sym w.self-is)
      | in-None w ↦
          let none = none_found test (range_with_len (g + 1) (order_of s.group - (g + 1))) (sym w.in-None.ensures) in
          start ∙ rest_last s shifts m ms g c.self.invariant.below listed (subgroup_closed s.group c.member_at.ensures.rules.shape shifts c.self.invariant.subgroup).set none
          ∙ ap (λ (b : List ℕ). b ∷ rest_from s shifts ms 0) (sym c.translated-block.ensures)
          ∙ ap (λ (l : List (List ℕ)). block ∷ l) (sym w.self-is)
    ]
