-- The sections of the canonical lines, read back one after the other.
use Rattle.std.proofs.Common.{◌≡◌, ◌≢◌, ℕ, ◌+◌, ◌<◌, ◌≤◌, min, true, false, eqb, ltb, List, [], ◌∷◌, ◌++◌, length, map, Option, Some, None, IfSome, Ok, decimal, codes, inl, inr, refl, sym, ap, ◌∙◌, subst, arith, tests, append-nil, append_assoc, length-append}
use Rattle.df_io.specs.Joined.{Each}
use Rattle.df_group.specs.Elements.{order_of}
use Rattle.df_group.specs.Subgroups.{exponent_of, is_unit}
use Rattle.df_group.proofs.ExponentLaws.{exponent_high}
use Rattle.df_lang.specs.declared.fault.SourceFault.TheVariants.{TargetRange, SizeRange}
use Rattle.df_lang.specs.declared.pieces.Inside.{Inside}
use Rattle.df_lang.specs.declared.pieces.Member.{Member}
use Rattle.df_lang.specs.declared.pieces.Kind.{Kind}
use Rattle.df_lang.specs.declared.pieces.Kind.TheVariants as kind
use Rattle.df_lang.specs.declared.canonical.Section.TheVariants as section
use Rattle.df_lang.specs.Problems.{Stated, Named, IsStated, IsNamed, IsInside, IsMultiplier, IsSize, IsBlock, DifferInName, point_count}
use Rattle.df_lang.specs.Rules.{◌>>=◌}
use Rattle.df_lang.specs.StandsAbove.{nothing}
use Rattle.df_lang.specs.Values.{sizes_read, inside_of, points_from}
use Rattle.df_lang.specs.Statements.{step, statement_line, meaning, subgroup_line, mult_line, size_line, inside_line, block_of, member_line, require_line, forbid_line}
use Rattle.df_lang.specs.Canonical.{number_tokens, which_text, subgroup_tokens, mult_statements, inside_statements, block_tokens, member_tokens, point_text, statements_in, statements_of}
use Rattle.df_lang.proofs.InOrder.{InOrder, Follows, follows_more, follows_none, order_from_pairs, order_from_rises}
use Rattle.df_lang.proofs.EachMember.{each_from, each_so}
use Rattle.df_lang.proofs.SetsBelow.{set_below}
use Rattle.df_lang.proofs.NumbersBack.{number_in_back, mults_back, sizes_back}
use Rattle.df_lang.proofs.PointsBack.{points_back}
use Rattle.df_lang.proofs.NamesBack.{subgroup_back, which_back}
use Rattle.df_lang.proofs.StepsBack.{after, after_append, with_group, with_names, with_shift, stated_mults, with_mults, with_lambda, with_inside, with_family, with_required, with_forbidden, group_step, group_first, version_step, fixed_step, shift_step, lambda_step, hole_step}

module _ (s : Stated) (is : IsStated s) where
  -- the lines `subgroup`
  name_step : (kept : List Named) (n : Named) → IsNamed s.group n → Each (λ (m : Named). DifferInName m n) kept → step (with_names s kept) (subgroup_tokens s.group n) ≡ Ok (with_names s (kept ++ n ∷ []))
  unfolding step statement_line meaning subgroup_line
  name_step kept n named differ = rw (subgroup_back s.group kept n is.shape named differ) refl

  names_after : (kept ns : List Named) → Each (IsNamed s.group) ns → InOrder DifferInName ns → Follows DifferInName kept ns → after (with_names s kept) (map (subgroup_tokens s.group) ns) ≡ Ok (with_names s (kept ++ ns))
  names_after kept [] named order follows = ap (λ (l : List Named). Ok (with_names s l)) (sym (append-nil kept))
  names_after kept (n ∷ ns) named order follows =
      ap (λ r. r >>= λ b. after b (map (subgroup_tokens s.group) ns)) (name_step kept n named.0 follows.0)
      ∙ names_after (kept ++ n ∷ []) ns named.1 order.1 (follows_more DifferInName kept n ns order.0 follows.1)
      ∙ ap (λ (l : List Named). Ok (with_names s l)) (append_assoc kept (n ∷ []) ns)

  -- the line `mult`
  mult_at : (ms : List ℕ) → Each (IsMultiplier s.group) ms → InOrder (λ m n. m ≢ n) ms → after (with_shift s) (mult_statements ms) ≡ Ok (record (with_shift s) { mults = stated_mults ms })
  unfolding step statement_line meaning mult_line
  mult_at [] each order = refl
  mult_at (m ∷ ms) each order =
      let below = each_so (IsMultiplier s.group) (λ n. n < exponent_of s.group) (m ∷ ms) (λ n h. h.below) each in
      let units = each_so (IsMultiplier s.group) (λ n. is_unit (exponent_of s.group) n ≡ true) (m ∷ ms) (λ n h. h.unit) each in
      rw (mults_back (exponent_of s.group) [] (m ∷ ms) (exponent_high s.group is.shape) (omega arith) below units order (follows_none (λ a b. a ≢ b) (m ∷ ms))) refl

  -- the line `k`
  size_first : (k : ℕ) → s.version ≡ 1 → 2 ≤ k → k ≤ min 16 (order_of s.group + s.fixed) → step (with_mults s) (codes "k" ∷ decimal k ∷ []) ≡ Ok (record (with_mults s) { sizes = Some (k ∷ []) })
  unfolding step statement_line meaning size_line sizes_read
  size_first k one low high =
      let first : eqb s.version 1 ≡ true = grind (arith, tests) in
      rw (number_in_back 2 (min 16 (order_of s.group + s.fixed)) SizeRange k (omega arith) low high, first) refl

  size_second : (k : ℕ) (ks : List ℕ) → s.version ≡ 2 → 2 ≤ k → k ≤ min 16 (order_of s.group + s.fixed) → Each (λ j. 2 ≤ j) ks → Each (λ j. j ≤ min 16 (order_of s.group + s.fixed)) ks
      → InOrder (λ p q. p < q) ks → Each (λ j. k < j) ks → step (with_mults s) (codes "k" ∷ decimal k ∷ map decimal ks) ≡ Ok (record (with_mults s) { sizes = Some (k ∷ ks) })
  unfolding step statement_line meaning size_line sizes_read
  size_second k ks two low high lows highs order above =
      let second : eqb s.version 1 ≡ false = grind (arith, tests) in
      let others = sizes_back (min 16 (order_of s.group + s.fixed)) (k ∷ []) ks (omega arith) lows highs order (follows_more (λ p q. p < q) [] k ks above (follows_none (λ p q. p < q) ks)) in
      rw (number_in_back 2 (min 16 (order_of s.group + s.fixed)) SizeRange k (omega arith) low high, second, others) refl

  sizes_at : (ks : List ℕ) → 0 < length ks → (s.version ≡ 1 → length ks ≡ 1) → Each (IsSize (point_count s)) ks → InOrder (λ p q. p < q) ks
      → step (with_mults s) (codes "k" ∷ map decimal ks) ≡ Ok (record (with_mults s) { sizes = Some ks })
  sizes_at [] some one each order = absurd (omega arith)
  sizes_at (k ∷ ks) some one each order =
      let v = point_count s in
      let low = each.0.low in
      let high : k ≤ min 16 (order_of s.group + s.fixed) = omega (arith, each.0.high, each.0.fits) in
      let lows = each_so (IsSize v) (λ j. 2 ≤ j) ks (λ j h. h.low) each.1 in
      let highs = each_so (IsSize v) (λ j. j ≤ min 16 (order_of s.group + s.fixed)) ks (λ j h. omega (arith, h.high, h.fits)) each.1 in
      elim is.version [
        | inl e ↦ alone k ks e low high (omega (arith, one e))
        | inr e ↦ size_second k ks e low high lows highs order.1 order.0
      ]
    where
      alone : (k : ℕ) (ks : List ℕ) → s.version ≡ 1 → 2 ≤ k → k ≤ min 16 (order_of s.group + s.fixed) → length ks ≡ 0 → step (with_mults s) (codes "k" ∷ decimal k ∷ map decimal ks) ≡ Ok (record (with_mults s) { sizes = Some (k ∷ ks) })
      alone k [] e low high none = size_first k e low high
      alone k (j ∷ ks) e low high none = absurd (omega arith)

  -- the line `inside`
  inside_at : (o : Option Inside) → IfSome o (IsInside s.names) → after (with_lambda s) (inside_statements s.names o) ≡ Ok (record (with_lambda s) { inside = o })
  unfolding step statement_line meaning inside_line inside_of
  inside_at None h = refl
  inside_at (Some i) h =
      let keyword = which_back s.group s.names i.subgroup (each_from (IsNamed s.group) s.names is.names) (order_from_pairs DifferInName s.names is.apart) h.subgroup in
      rw (keyword, number_in_back 0 2000000 TargetRange i.target (omega (arith, h.target)) (omega arith) h.target) refl

  -- the lines `base` and `short`
  block_back : (b : List ℕ) → IsBlock (point_count s) s.sizes b → points_from s.group s.fixed s.sizes [] (map (point_text s.group) b) ≡ Ok b
  block_back b h = points_back s.group s.fixed s.sizes is.shape (omega (arith, is.fixed)) b (set_below (point_count s) b h.set) (order_from_rises 0 (point_count s) b h.set) h.size

  member_step : (kept : List Member) (k : Kind) (b : List ℕ) → length kept < 4096 → IsBlock (point_count s) s.sizes b
      → step (with_family s kept) (member_tokens s.group record { kind = k; block = b }) ≡ Ok (with_family s (kept ++ record { kind = k; block = b } ∷ []))
  unfolding step statement_line meaning member_line block_of
  member_step kept kind.Base b few h = let room : ltb (length kept) 4096 ≡ true = grind (arith, tests) in rw (room, block_back b h) refl
  member_step kept kind.Short b few h = let room : ltb (length kept) 4096 ≡ true = grind (arith, tests) in rw (room, block_back b h) refl

  family_after : (kept ms : List Member) → length kept + length ms ≤ 4096 → Each (λ (m : Member). IsBlock (point_count s) s.sizes m.block) ms
      → after (with_family s kept) (map (member_tokens s.group) ms) ≡ Ok (with_family s (kept ++ ms))
  family_after kept [] few each = ap (λ (l : List Member). Ok (with_family s l)) (sym (append-nil kept))
  family_after kept (m ∷ ms) few each =
      ap (λ r. r >>= λ b. after b (map (member_tokens s.group) ms)) (member_step kept m.kind m.block (omega arith) each.0)
      ∙ family_after (kept ++ m ∷ []) ms (omega (arith, length-append kept (m ∷ []))) each.1
      ∙ ap (λ (l : List Member). Ok (with_family s l)) (append_assoc kept (m ∷ []) ms)

  -- the lines `require` and `forbid`
  require_step : (kept : List (List ℕ)) (b : List ℕ) → s.version ≡ 2 → length kept < 4096 → IsBlock (point_count s) s.sizes b
      → step (with_required s kept) (block_tokens s.group (codes "require") b) ≡ Ok (with_required s (kept ++ b ∷ []))
  unfolding step statement_line meaning require_line block_of
  require_step kept b two few h =
      let second : eqb s.version 2 ≡ true = grind (arith, tests) in
      let room : ltb (length kept + 0) 4096 ≡ true = grind (arith, tests) in
      rw (second, room, block_back b h) refl

  required_after : (kept bs : List (List ℕ)) → s.version ≡ 2 → length kept + length bs ≤ 4096 → Each (IsBlock (point_count s) s.sizes) bs
      → after (with_required s kept) (map (block_tokens s.group (codes "require")) bs) ≡ Ok (with_required s (kept ++ bs))
  required_after kept [] two few each = ap (λ (l : List (List ℕ)). Ok (with_required s l)) (sym (append-nil kept))
  required_after kept (b ∷ bs) two few each =
      ap (λ r. r >>= λ c. after c (map (block_tokens s.group (codes "require")) bs)) (require_step kept b two (omega arith) each.0)
      ∙ required_after (kept ++ b ∷ []) bs two (omega (arith, length-append kept (b ∷ []))) each.1
      ∙ ap (λ (l : List (List ℕ)). Ok (with_required s l)) (append_assoc kept (b ∷ []) bs)

  forbid_step : (kept : List (List ℕ)) (b : List ℕ) → s.version ≡ 2 → length s.required + length kept < 4096 → IsBlock (point_count s) s.sizes b
      → step (with_forbidden s kept) (block_tokens s.group (codes "forbid") b) ≡ Ok (with_forbidden s (kept ++ b ∷ []))
  unfolding step statement_line meaning forbid_line block_of
  forbid_step kept b two few h =
      let second : eqb s.version 2 ≡ true = grind (arith, tests) in
      let room : ltb (length s.required + length kept) 4096 ≡ true = grind (arith, tests) in
      rw (second, room, block_back b h) refl

  forbidden_after : (kept bs : List (List ℕ)) → s.version ≡ 2 → length s.required + (length kept + length bs) ≤ 4096 → Each (IsBlock (point_count s) s.sizes) bs
      → after (with_forbidden s kept) (map (block_tokens s.group (codes "forbid")) bs) ≡ Ok (with_forbidden s (kept ++ bs))
  forbidden_after kept [] two few each = ap (λ (l : List (List ℕ)). Ok (with_forbidden s l)) (sym (append-nil kept))
  forbidden_after kept (b ∷ bs) two few each =
      ap (λ r. r >>= λ c. after c (map (block_tokens s.group (codes "forbid")) bs)) (forbid_step kept b two (omega arith) each.0)
      ∙ forbidden_after (kept ++ b ∷ []) bs two (omega (arith, length-append kept (b ∷ []))) each.1
      ∙ ap (λ (l : List (List ℕ)). Ok (with_forbidden s l)) (append_assoc kept (b ∷ []) bs)

  -- in version 1 there are none of them
  required_at : (bs : List (List ℕ)) → (s.version ≡ 1 → bs ≡ []) → length bs ≤ 4096 → Each (IsBlock (point_count s) s.sizes) bs
      → after (with_family s s.family) (map (block_tokens s.group (codes "require")) bs) ≡ Ok (with_required s bs)
  required_at bs none few each =
      elim is.version [
        | inl e ↦ subst (λ (l : List (List ℕ)). after (with_family s s.family) (map (block_tokens s.group (codes "require")) l) ≡ Ok (with_required s l)) (sym (none e)) refl
        | inr e ↦ required_after [] bs e (omega (arith, few)) each
      ]

  forbidden_at : (bs : List (List ℕ)) → (s.version ≡ 1 → bs ≡ []) → length s.required + length bs ≤ 4096 → Each (IsBlock (point_count s) s.sizes) bs
      → after (with_required s s.required) (map (block_tokens s.group (codes "forbid")) bs) ≡ Ok (with_forbidden s bs)
  forbidden_at bs none few each =
      elim is.version [
        | inl e ↦ subst (λ (l : List (List ℕ)). after (with_required s s.required) (map (block_tokens s.group (codes "forbid")) l) ≡ Ok (with_forbidden s l)) (sym (none e)) refl
        | inr e ↦ forbidden_after [] bs e (omega (arith, few)) each
      ]

  -- the version and the group
  head : (rest : List (List (List ℕ))) → after nothing (statements_in s section.Version ++ (statements_in s section.Group ++ rest)) ≡ after (with_group s) rest
  unfolding statements_in
  head rest =
      elim is.version [
        | inl e ↦
            let first : eqb s.version 2 ≡ false = grind (arith, tests) in
            rw first (ap (λ r. r >>= λ b. after b rest) (group_first s is) ∙ ap (λ v. after (record nothing { version = Some v; group = Some s.group }) rest) (sym e))
        | inr e ↦
            let second : eqb s.version 2 ≡ true = grind (arith, tests) in
            rw second (ap (λ r. r >>= λ b. after b ((codes "group" ∷ map decimal s.group) ∷ rest)) (version_step s is) ∙ ap (λ r. r >>= λ b. after b rest) (group_step s is) ∙ ap (λ v. after (record nothing { version = Some v; group = Some s.group }) rest) (sym e))
      ]

  -- all statements
  pub statements_after : after nothing (statements_of s) ≡ Ok (with_forbidden s s.forbidden)
  unfolding statements_of statements_in
  statements_after =
      let IsHere : Member → Type 0 = λ m. IsBlock (point_count s) s.sizes m.block in
      let rises = order_from_rises 0 17 s.sizes is.sizes_rise in
      let forbids : List (List (List ℕ)) = map (block_tokens s.group (codes "forbid")) s.forbidden ++ [] in
      let requires : List (List (List ℕ)) = map (block_tokens s.group (codes "require")) s.required ++ forbids in
      let family : List (List (List ℕ)) = map (member_tokens s.group) s.family ++ requires in
      let from_hole : List (List (List ℕ)) = number_tokens (codes "hole") s.hole ∷ family in
      let from_inside : List (List (List ℕ)) = inside_statements s.names s.inside ++ from_hole in
      let from_lambda : List (List (List ℕ)) = number_tokens (codes "lambda") s.lambda ∷ from_inside in
      let from_sizes : List (List (List ℕ)) = (codes "k" ∷ map decimal s.sizes) ∷ from_lambda in
      let from_mults : List (List (List ℕ)) = mult_statements s.mults ++ from_sizes in
      let from_shift : List (List (List ℕ)) = (codes "shift" ∷ which_text s.names s.shift ∷ []) ∷ from_mults in
      let from_names : List (List (List ℕ)) = map (subgroup_tokens s.group) s.names ++ from_shift in
      head (number_tokens (codes "fixed") s.fixed ∷ from_names)
      ∙ ap (λ r. r >>= λ b. after b from_names) (fixed_step s is)
      ∙ after_append (with_names s []) (with_names s s.names) (map (subgroup_tokens s.group) s.names) from_shift
      (names_after [] s.names (each_from (IsNamed s.group) s.names is.names) (order_from_pairs DifferInName s.names is.apart) (follows_none DifferInName s.names))
      ∙ ap (λ r. r >>= λ b. after b from_mults) (shift_step s is)
      ∙ after_append (with_shift s) (with_mults s) (mult_statements s.mults) from_sizes (mult_at s.mults (each_from (IsMultiplier s.group) s.mults is.mults) (order_from_pairs (λ m n. m ≢ n) s.mults is.mults_once))
      ∙ ap (λ r. r >>= λ b. after b from_lambda) (sizes_at s.sizes is.some_size (λ e. (is.first_version e).sizes) (each_from (IsSize (point_count s)) s.sizes is.sizes) rises)
      ∙ ap (λ r. r >>= λ b. after b from_inside) (lambda_step s is)
      ∙ after_append (with_lambda s) (with_inside s) (inside_statements s.names s.inside) from_hole (inside_at s.inside is.inside)
      ∙ ap (λ r. r >>= λ b. after b family) (hole_step s is)
      ∙ after_append (with_family s []) (with_family s s.family) (map (member_tokens s.group) s.family) requires (family_after [] s.family (omega (arith, is.few_blocks)) (each_from IsHere s.family is.family))
      ∙ after_append (with_family s s.family) (with_required s s.required) (map (block_tokens s.group (codes "require")) s.required) forbids
      (required_at s.required (λ e. (is.first_version e).required) (omega (arith, is.few_stated)) (each_from (IsBlock (point_count s) s.sizes) s.required is.required))
      ∙ after_append (with_required s s.required) (with_forbidden s s.forbidden) (map (block_tokens s.group (codes "forbid")) s.forbidden) []
      (forbidden_at s.forbidden (λ e. (is.first_version e).forbidden) is.few_stated (each_from (IsBlock (point_count s) s.sizes) s.forbidden is.forbidden))
