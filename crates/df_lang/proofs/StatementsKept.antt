-- Each statement keeps the rules.
use Rattle.std.proofs.Common.{◌≡◌, ℕ, ◌+◌, ◌-◌, ◌<◌, ◌≤◌, nat_lt, min, List, [], ◌∷◌, ◌++◌, length, get_or, Option, Some, None, Result, Ok, IfSome, unwrap_or, sym, ap, arith, tests, subst, true≢false}
use Rattle.std.proofs.lemmas.List.{length_push}
use Rattle.std.proofs.lemmas.List.Elements.{All-push}
use Rattle.std.proofs.lemmas.List.Quantifiers.{all_pairs_push}
use Rattle.df_group.specs.Elements.{order_of, IsShape}
use Rattle.df_group.specs.Subgroups.{exponent_of}
use Rattle.df_group.proofs.ExponentLaws.{exponent_low}
use Rattle.df_lists.proofs.RisingLists.{Rises-wider}
use Rattle.df_lang.specs.declared.fault.SourceFault.{SourceFault}
use Rattle.df_lang.specs.declared.fault.SourceFault.TheVariants.{FixedRange, TargetRange, TooManyBlocks, Missing}
use Rattle.df_lang.specs.declared.fault.Needed.TheVariants as needed
use Rattle.df_lang.specs.declared.pieces.Which.{Which}
use Rattle.df_lang.specs.declared.pieces.Which.TheVariants as which
use Rattle.df_lang.specs.declared.pieces.Inside.{Inside}
use Rattle.df_lang.specs.declared.pieces.Kind.{Kind}
use Rattle.df_lang.specs.declared.pieces.Member.{Member}
use Rattle.df_lang.specs.Problems.{Named, IsNamed, DifferInName, IsSubgroupName, IsInside, IsBlock}
use Rattle.df_lang.specs.Rules.{◌>>=◌, allowed, once, one_number}
use Rattle.df_lang.specs.StandsAbove.{Above, group_of, sizes_of, fixed_of, version_of}
use Rattle.df_lang.specs.Values.{mults_from, subgroup_of, shift_of, sizes_read, inside_of, points_from}
use Rattle.df_lang.specs.Statements.{fixed_line, subgroup_line, shift_line, mult_line, size_line, lambda_line, inside_line, hole_line, block_of, member_line, require_line, forbid_line}
use Rattle.df_lang.specs.DraftRules.{shape_above, sizes_above, points_above, MultsKept, SizesKept, BlocksKept, Keeps}
use Rattle.df_lang.proofs.RulesKept.{bind_kept, once_kept, allowed_kept, there, one_number_kept}
use Rattle.df_lang.proofs.ValuesKept.{mults_kept, sizes_kept}
use Rattle.df_lang.proofs.PointsKept.{points_kept, not_placed, subgroup_kept, shift_kept, inside_kept}

-- a statement that may come once and needs the group
once_grouped : {A : Type 0} (a : Above) (o : Option A) (f : List ℕ → Result Above SourceFault) (b : Above) → (once o >>= λ _. group_of a >>= f) ≡ Ok b
    → (fs : List ℕ) × (o ≡ None) × (a.group ≡ Some fs) × (f fs ≡ Ok b)
once_grouped a o f b h =
    let first = bind_kept (once o) (λ _. group_of a >>= f) b h in
    let fs = bind_kept (group_of a) f b first.2 in
    (fs.0, once_kept o first.0 first.1, there a.group (Missing needed.Group) fs.0 fs.1, fs.2)

shape_is : (a : Above) (fs : List ℕ) → a.group ≡ Some fs → shape_above a ≡ fs
shape_is a fs h = ap (λ o. unwrap_or o []) h

-- more points
sizes_wider : (version v w : ℕ) (o : Option (List ℕ)) → v ≤ w → IfSome o (SizesKept version v) → IfSome o (SizesKept version w)
sizes_wider version v w None h kept = tt
sizes_wider version v w (Some ks) h kept =
    record { some = kept.some; each = λ i d l. let is = kept.each i d l in record { low = is.low; high = is.high; fits = omega (arith, is.fits) }; rise = kept.rise; one = kept.one }

block_wider : (v w : ℕ) (ks block : List ℕ) → v ≤ w → IsBlock v ks block → IsBlock w ks block
block_wider v w ks block h is = record { set = (Rises-wider 0 0 v w block (omega arith) h is.set); size = is.size }

blocks_wider : (version v w : ℕ) (ks : List ℕ) (ms : List Member) (rs ns : List (List ℕ)) → v ≤ w → BlocksKept version v ks ms rs ns → BlocksKept version w ks ms rs ns
blocks_wider version v w ks ms rs ns h kept = record {
  family = λ i d l. block_wider v w ks (get_or ms i d).block h (kept.family i d l);
  few = kept.few;
  required = λ i d l. block_wider v w ks (get_or rs i d) h (kept.required i d l);
  forbidden = λ i d l. block_wider v w ks (get_or ns i d) h (kept.forbidden i d l);
  few_stated = kept.few_stated;
  none_required = kept.none_required;
  none_forbidden = kept.none_forbidden;
}

-- no block without a size
sizeless : (v : ℕ) (block : List ℕ) → IsBlock v [] block → ⊥
sizeless v block is = true≢false (sym is.size)

blocks_sized : (version v : ℕ) (ks : List ℕ) (ms : List Member) (rs ns : List (List ℕ)) → BlocksKept version v [] ms rs ns → BlocksKept version v ks ms rs ns
blocks_sized version v ks ms rs ns kept = record {
  family = λ i d l. absurd (sizeless v (get_or ms i d).block (kept.family i d l));
  few = kept.few;
  required = λ i d l. absurd (sizeless v (get_or rs i d) (kept.required i d l));
  forbidden = λ i d l. absurd (sizeless v (get_or ns i d) (kept.forbidden i d l));
  few_stated = kept.few_stated;
  none_required = kept.none_required;
  none_forbidden = kept.none_forbidden;
}

-- more names
which_wider : (names : List Named) (n : Named) (w : Which) → IsSubgroupName names w → IsSubgroupName (names ++ n ∷ []) w
which_wider names n which.All is = tt
which_wider names n which.Trivial is = tt
which_wider names n (which.Named i) is = omega (arith, length_push names n)

shift_wider : (names : List Named) (n : Named) (o : Option Which) → IfSome o (IsSubgroupName names) → IfSome o (IsSubgroupName (names ++ n ∷ []))
shift_wider names n None is = tt
shift_wider names n (Some w) is = which_wider names n w is

inside_wider : (names : List Named) (n : Named) (o : Option Inside) → IfSome o (IsInside names) → IfSome o (IsInside (names ++ n ∷ []))
inside_wider names n None is = tt
inside_wider names n (Some i) is = record { subgroup = which_wider names n i.subgroup is.subgroup; target = is.target }

module _ (a b : Above) (tokens : List (List ℕ)) (k : Keeps a) where
  pub fixed_line_kept : fixed_line a tokens ≡ Ok b → Keeps b
  unfolding fixed_line
  fixed_line_kept h =
      let g = once_grouped a a.fixed (λ fs. one_number 0 (min 16 (128 - order_of fs)) FixedRange tokens >>= λ n. Ok (record a { fixed = Some n })) b h in
      let n = bind_kept (one_number 0 (min 16 (128 - order_of g.0)) FixedRange tokens) (λ n. Ok (record a { fixed = Some n })) b g.3 in
      let range = one_number_kept 0 (min 16 (128 - order_of g.0)) FixedRange tokens n.0 n.1 in
      let same = ap order_of (shape_is a g.0 g.2) in
      let none : fixed_of a ≡ 0 = ap (λ o. unwrap_or o 0) g.1 in
      let head = k.head in
      let small = head.shape.small in
      let wide : points_above a ≤ order_of (shape_above a) + n.0 = omega (arith, none) in
      let is : record a { fixed = Some n.0 } ≡ b = cc in
      subst Keeps is record {
        head = record { version_stated = head.version_stated; group_stated = head.group_stated; version_is = head.version_is; shape = head.shape; few_fixed = omega (arith, range.1); points = omega (arith, range.1, same, small) };
        names = k.names;
        shift = k.shift;
        mults = k.mults;
        sizes = sizes_wider (version_of a) (points_above a) (order_of (shape_above a) + n.0) a.sizes wide k.sizes;
        lambda = k.lambda;
        inside = k.inside;
        hole = k.hole;
        blocks = blocks_wider (version_of a) (points_above a) (order_of (shape_above a) + n.0) (sizes_above a) a.family a.required a.forbidden wide k.blocks;
      }

  pub subgroup_line_kept : subgroup_line a tokens ≡ Ok b → Keeps b
  unfolding subgroup_line
  subgroup_line_kept h =
      let fs = bind_kept (group_of a) (λ fs. subgroup_of fs a.names tokens >>= λ named. Ok (record a { names = a.names ++ named ∷ [] })) b h in
      let group = there a.group (Missing needed.Group) fs.0 fs.1 in
      let n = bind_kept (subgroup_of fs.0 a.names tokens) (λ named. Ok (record a { names = a.names ++ named ∷ [] })) b fs.2 in
      let new = subgroup_kept fs.0 a.names tokens n.0 n.1 in
      let named = subst (λ gs. IsNamed gs n.0) (sym (shape_is a fs.0 group)) new.0 in
      let is : record a { names = a.names ++ n.0 ∷ [] } ≡ b = cc in
      subst Keeps is record {
        head = k.head;
        names = record {
          each = All-push (IsNamed (shape_above a)) a.names n.0 k.names.each named;
          apart = all_pairs_push DifferInName a.names n.0 k.names.apart (λ i d l. not_placed a.names n.0.0 new.1 i d l);
        };
        shift = shift_wider a.names n.0 a.shift k.shift;
        mults = k.mults;
        sizes = k.sizes;
        lambda = k.lambda;
        inside = inside_wider a.names n.0 a.inside k.inside;
        hole = k.hole;
        blocks = k.blocks;
      }

  pub shift_line_kept : shift_line a tokens ≡ Ok b → Keeps b
  unfolding shift_line
  shift_line_kept h =
      let g = once_grouped a a.shift (λ _. shift_of a.names tokens >>= λ w. Ok (record a { shift = Some w })) b h in
      let w = bind_kept (shift_of a.names tokens) (λ w. Ok (record a { shift = Some w })) b g.3 in
      let is : record a { shift = Some w.0 } ≡ b = cc in
      subst Keeps is record {
        head = k.head;
        names = k.names;
        shift = shift_kept a.names tokens w.0 w.1;
        mults = k.mults;
        sizes = k.sizes;
        lambda = k.lambda;
        inside = k.inside;
        hole = k.hole;
        blocks = k.blocks;
      }

  pub mult_line_kept : mult_line a tokens ≡ Ok b → Keeps b
  unfolding mult_line
  mult_line_kept h =
      let g = once_grouped a a.mults (λ fs. mults_from (exponent_of fs) [] tokens >>= λ ms. Ok (record a { mults = Some ms })) b h in
      let ms = bind_kept (mults_from (exponent_of g.0) [] tokens) (λ ms. Ok (record a { mults = Some ms })) b g.3 in
      let shape = subst IsShape (shape_is a g.0 g.2) k.head.shape in
      let some : 0 < exponent_of g.0 = omega (arith, exponent_low g.0 shape) in
      let kept = subst (λ gs. MultsKept gs ms.0) (sym (shape_is a g.0 g.2)) (mults_kept g.0 tokens ms.0 some ms.1) in
      let is : record a { mults = Some ms.0 } ≡ b = cc in
      subst Keeps is record {
        head = k.head;
        names = k.names;
        shift = k.shift;
        mults = kept;
        sizes = k.sizes;
        lambda = k.lambda;
        inside = k.inside;
        hole = k.hole;
        blocks = k.blocks;
      }

  pub size_line_kept : size_line a tokens ≡ Ok b → Keeps b
  unfolding size_line
  size_line_kept h =
      let g = once_grouped a a.sizes (λ fs. sizes_read (version_of a) (min 16 (order_of fs + fixed_of a)) tokens >>= λ ks. Ok (record a { sizes = Some ks })) b h in
      let ks = bind_kept (sizes_read (version_of a) (min 16 (order_of g.0 + fixed_of a)) tokens) (λ ks. Ok (record a { sizes = Some ks })) b g.3 in
      let same = ap order_of (shape_is a g.0 g.2) in
      let kept = sizes_kept (version_of a) (points_above a) (min 16 (order_of g.0 + fixed_of a)) tokens ks.0 (omega arith) (omega (arith, same)) ks.1 in
      let none : sizes_above a ≡ [] = ap (λ o. unwrap_or o []) g.1 in
      let before = subst (λ ls. BlocksKept (version_of a) (points_above a) ls a.family a.required a.forbidden) none k.blocks in
      let is : record a { sizes = Some ks.0 } ≡ b = cc in
      subst Keeps is record {
        head = k.head;
        names = k.names;
        shift = k.shift;
        mults = k.mults;
        sizes = kept;
        lambda = k.lambda;
        inside = k.inside;
        hole = k.hole;
        blocks = blocks_sized (version_of a) (points_above a) ks.0 a.family a.required a.forbidden before;
      }

  pub lambda_line_kept : lambda_line a tokens ≡ Ok b → Keeps b
  unfolding lambda_line
  lambda_line_kept h =
      let g = once_grouped a a.lambda (λ _. one_number 0 2000000 TargetRange tokens >>= λ n. Ok (record a { lambda = Some n })) b h in
      let n = bind_kept (one_number 0 2000000 TargetRange tokens) (λ n. Ok (record a { lambda = Some n })) b g.3 in
      let is : record a { lambda = Some n.0 } ≡ b = cc in
      subst Keeps is record {
        head = k.head;
        names = k.names;
        shift = k.shift;
        mults = k.mults;
        sizes = k.sizes;
        lambda = (one_number_kept 0 2000000 TargetRange tokens n.0 n.1).1;
        inside = k.inside;
        hole = k.hole;
        blocks = k.blocks;
      }

  pub inside_line_kept : inside_line a tokens ≡ Ok b → Keeps b
  unfolding inside_line
  inside_line_kept h =
      let g = once_grouped a a.inside (λ _. inside_of a.names tokens >>= λ i. Ok (record a { inside = Some i })) b h in
      let i = bind_kept (inside_of a.names tokens) (λ i. Ok (record a { inside = Some i })) b g.3 in
      let is : record a { inside = Some i.0 } ≡ b = cc in
      subst Keeps is record {
        head = k.head;
        names = k.names;
        shift = k.shift;
        mults = k.mults;
        sizes = k.sizes;
        lambda = k.lambda;
        inside = inside_kept a.names tokens i.0 i.1;
        hole = k.hole;
        blocks = k.blocks;
      }

  pub hole_line_kept : hole_line a tokens ≡ Ok b → Keeps b
  unfolding hole_line
  hole_line_kept h =
      let g = once_grouped a a.hole (λ _. one_number 0 2000000 TargetRange tokens >>= λ n. Ok (record a { hole = Some n })) b h in
      let n = bind_kept (one_number 0 2000000 TargetRange tokens) (λ n. Ok (record a { hole = Some n })) b g.3 in
      let is : record a { hole = Some n.0 } ≡ b = cc in
      subst Keeps is record {
        head = k.head;
        names = k.names;
        shift = k.shift;
        mults = k.mults;
        sizes = k.sizes;
        lambda = k.lambda;
        inside = k.inside;
        hole = (one_number_kept 0 2000000 TargetRange tokens n.0 n.1).1;
        blocks = k.blocks;
      }

  -- a block, and how many of its kind stand above
  block_kept : (count : ℕ) (block : List ℕ) → block_of a count tokens ≡ Ok block → IsBlock (points_above a) (sizes_above a) block × (count < 4096)
  unfolding block_of
  block_kept count block h =
      let fs = bind_kept (group_of a) (λ fs. sizes_of a >>= λ ks. allowed (nat_lt count 4096) TooManyBlocks >>= λ _. points_from fs (fixed_of a) ks [] tokens) block h in
      let ks = bind_kept (sizes_of a) (λ ks. allowed (nat_lt count 4096) TooManyBlocks >>= λ _. points_from fs.0 (fixed_of a) ks [] tokens) block fs.2 in
      let room = bind_kept (allowed (nat_lt count 4096) TooManyBlocks) (λ _. points_from fs.0 (fixed_of a) ks.0 [] tokens) block ks.2 in
      let few = allowed_kept (nat_lt count 4096) TooManyBlocks room.0 room.1 in
      let group = shape_is a fs.0 (there a.group (Missing needed.Group) fs.0 fs.1) in
      let sizes : sizes_above a ≡ ks.0 = ap (λ o. unwrap_or o []) (there a.sizes (Missing needed.Size) ks.0 ks.1) in
      let is = points_kept fs.0 (fixed_of a) ks.0 [] tokens block tt room.2 in
      let sized = subst (λ ls. IsBlock (order_of fs.0 + fixed_of a) ls block) (sym sizes) is in
      (subst (λ gs. IsBlock (order_of gs + fixed_of a) (sizes_above a) block) (sym group) sized, grind (arith, tests))

  pub member_line_kept : (kind : Kind) → member_line a kind tokens ≡ Ok b → Keeps b
  unfolding member_line
  member_line_kept kind h =
      let m = bind_kept (block_of a (length a.family) tokens) (λ block. Ok (record a { family = a.family ++ record { kind = kind; block = block } ∷ [] })) b h in
      let member : Member = record { kind = kind; block = m.0 } in
      let kept = block_kept (length a.family) m.0 m.1 in
      let blocks = k.blocks in
      let is : record a { family = a.family ++ member ∷ [] } ≡ b = cc in
      subst Keeps is record {
        head = k.head;
        names = k.names;
        shift = k.shift;
        mults = k.mults;
        sizes = k.sizes;
        lambda = k.lambda;
        inside = k.inside;
        hole = k.hole;
        blocks = record {
          family = All-push (λ (m : Member). IsBlock (points_above a) (sizes_above a) m.block) a.family member blocks.family kept.0;
          few = omega (arith, kept.1, length_push a.family member);
          required = blocks.required;
          forbidden = blocks.forbidden;
          few_stated = blocks.few_stated;
          none_required = blocks.none_required;
          none_forbidden = blocks.none_forbidden;
        };
      }

  pub require_line_kept : version_of a ≡ 2 → require_line a tokens ≡ Ok b → Keeps b
  unfolding require_line
  require_line_kept second h =
      let m = bind_kept (block_of a (length a.required + length a.forbidden) tokens) (λ block. Ok (record a { required = a.required ++ block ∷ [] })) b h in
      let kept = block_kept (length a.required + length a.forbidden) m.0 m.1 in
      let blocks = k.blocks in
      let is : record a { required = a.required ++ m.0 ∷ [] } ≡ b = cc in
      subst Keeps is record {
        head = k.head;
        names = k.names;
        shift = k.shift;
        mults = k.mults;
        sizes = k.sizes;
        lambda = k.lambda;
        inside = k.inside;
        hole = k.hole;
        blocks = record {
          family = blocks.family;
          few = blocks.few;
          required = All-push (IsBlock (points_above a) (sizes_above a)) a.required m.0 blocks.required kept.0;
          forbidden = blocks.forbidden;
          few_stated = omega (arith, kept.1, length_push a.required m.0);
          none_required = λ first. absurd (omega (arith, first, second));
          none_forbidden = blocks.none_forbidden;
        };
      }

  pub forbid_line_kept : version_of a ≡ 2 → forbid_line a tokens ≡ Ok b → Keeps b
  unfolding forbid_line
  forbid_line_kept second h =
      let m = bind_kept (block_of a (length a.required + length a.forbidden) tokens) (λ block. Ok (record a { forbidden = a.forbidden ++ block ∷ [] })) b h in
      let kept = block_kept (length a.required + length a.forbidden) m.0 m.1 in
      let blocks = k.blocks in
      let is : record a { forbidden = a.forbidden ++ m.0 ∷ [] } ≡ b = cc in
      subst Keeps is record {
        head = k.head;
        names = k.names;
        shift = k.shift;
        mults = k.mults;
        sizes = k.sizes;
        lambda = k.lambda;
        inside = k.inside;
        hole = k.hole;
        blocks = record {
          family = blocks.family;
          few = blocks.few;
          required = blocks.required;
          forbidden = All-push (IsBlock (points_above a) (sizes_above a)) a.forbidden m.0 blocks.forbidden kept.0;
          few_stated = omega (arith, kept.1, length_push a.forbidden m.0);
          none_required = blocks.none_required;
          none_forbidden = λ first. absurd (omega (arith, first, second));
        };
      }
