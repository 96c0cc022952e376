use Rattle.std.proofs.Common.{◌≡◌, ◌∙◌, ◌∷◌, ◌++◌, ℕ, [], map, filter, length, cond, sym, ap, arith, append-nil, length-append}
use Rattle.std.specs.List.{range_with_len}
use Rattle.std.proofs.lemmas.List.{map-append}
use Rattle.df_lists.specs.NumberSets.{has_member}
use Rattle.df_lists.proofs.RangeLaws.{filter_more}
use Rattle.df_lists.proofs.SetLaws.{set_picked}
use Rattle.df_group.specs.Elements.{order_of}
use Rattle.df_group.proofs.SubgroupLaws.{subgroup_closed}
use Rattle.df_mixed.specs.Origins.{origin_of, origins_of}
use Rattle.df_mixed.proofs.pairs.origins.Goals as goal

pub loop-number-preserved-then-not-has : goal.loop-number-preserved-then-not-has
loop-number-preserved-then-not-has c =
    let s = c.args.problem.now in
    let n = c.loop-number.number in
    let t = has_member c.args.shifts.now in
    let few = c.loop-number.invariant.few in
    record {
      pairs = c.loop-number.invariant.pairs
          ∙ ap (λ l. origins_of s l c.args.p c.args.q) (sym (filter_more t n ∙ ap (λ v. filter t (range_with_len 0 n) ++ cond v (n ∷ []) []) (sym c.has.ensures ∙ c.if-not-has.true) ∙ append-nil (filter t (range_with_len 0 n))));
      few = omega arith;
    }

pub loop-number-preserved : goal.loop-number-preserved
loop-number-preserved c =
    let s = c.args.problem.now in
    let n = c.loop-number.number in
    let t = has_member c.args.shifts.now in
    let origin : ℕ → ℕ × ℕ = λ g. (origin_of s c.args.p g, origin_of s c.args.q g) in
    let before = filter t (range_with_len 0 n) in
    let grown = length-append c.loop-number.origins.items ((c.origin.result, c.origin-in-loop-number.result) ∷ []) in
    let long = ap length c.push.ensures.items in
    let few = c.loop-number.invariant.few in
    record {
      pairs = c.push.ensures.items ∙ ap (λ l. l ++ (c.origin.result, c.origin-in-loop-number.result) ∷ []) c.loop-number.invariant.pairs
          ∙ ap (λ (x : ℕ). map origin before ++ (x, c.origin-in-loop-number.result) ∷ []) c.origin.ensures ∙ ap (λ (x : ℕ). map origin before ++ (origin_of s c.args.p n, x) ∷ []) c.origin-in-loop-number.ensures
          ∙ sym (ap (map origin) (filter_more t n ∙ ap (λ v. before ++ cond v (n ∷ []) []) (sym c.has.ensures ∙ c.if-not-has.false)) ∙ map-append origin before (n ∷ []));
      few = omega arith;
    }

pub returns-clause-origins : goal.returns-clause-origins
returns-clause-origins c =
    let s = c.args.problem.now in
    let shifts = c.args.shifts.now in
    let end : c.loop-number.number ≡ order_of s.group = omega (arith, c.order-number-end.ensures.order) in
    let closed = subgroup_closed s.group c.order-number-end.ensures.rules.shape shifts c.requires.subgroup in
    c.loop-number.invariant.pairs
    ∙ ap (λ l. origins_of s l c.args.p c.args.q) (ap (λ n. filter (has_member shifts) (range_with_len 0 n)) end ∙ sym (set_picked (order_of s.group) shifts closed.set))
