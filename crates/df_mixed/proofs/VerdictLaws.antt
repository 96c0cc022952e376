-- What a verdict on a mixed family tells.
use Rattle.std.proofs.Common.{◌≡◌, ◌↔◌, ℕ, true, false, not, find, position, length, get_or, Option, None, Some, refl, sym, ap, ◌∙◌, subst, eqb-true, eq-eqb}
use Rattle.std.proofs.lemmas.Bool.{both_ways, not-false}
use Rattle.df_lists.proofs.MemberLaws.{In-map, In-map_gives}
use Rattle.df_lang.specs.Problems.{Stated, IsStated}
use Rattle.df_lang.specs.Targets.{target}
use Rattle.df_lang.specs.Balance.{IsBalanced}
use Rattle.df_family.specs.declared.verdict.Verdict.{Verdict}
use Rattle.df_family.specs.declared.verdict.Verdict.TheVariants as family
use Rattle.df_family.specs.declared.table.Entry.{Entry}
use Rattle.df_family.specs.Developments.{develop, develop_under}
use Rattle.df_family.specs.Covers.{found_at}
use Rattle.df_family.specs.Tables as family_tables
use Rattle.df_family.specs.Verdicts as family_verdicts
use Rattle.df_family.proofs.VerdictLaws.{verdict_law}
use Rattle.df_mixed.specs.declared.verdict.MixedVerdict.{MixedVerdict}
use Rattle.df_mixed.specs.declared.verdict.MixedVerdict.TheVariants.{Accepted, Refused}
use Rattle.df_mixed.specs.declared.table.PairEntry.{PairEntry}
use Rattle.df_mixed.specs.PairOrbits.{shifts_of, pair_rows}
use Rattle.df_mixed.specs.MixedTables.{mixed_development, pair_entry, mixed_table, is_wrong, AreFoundAsStated}
use Rattle.df_mixed.specs.MixedVerdicts.{mixed_verdict_at, mixed_verdict, IsMixedVerdictOn, is_accepted}
use Rattle.df_mixed.specs.MixedLaws.{WholeGroupLaw}
use Rattle.df_mixed.proofs.FirstPlaces.{none_at, first_at}
use Rattle.df_mixed.proofs.TargetShifts.{shifts_subgroup}
use Rattle.df_mixed.proofs.PairBalance.{pair_balance}

abbrev no_entry : PairEntry
no_entry = record { pair = (0, 0); found = 0; stated = 0 }

-- a verdict accepts exactly where each row is as stated
pub accepts_rows : (s : Stated) → (is_accepted (mixed_verdict s) ≡ true) ↔ AreFoundAsStated s (shifts_of s)
accepts_rows s = go (position is_wrong (mixed_table s)) refl
  where
    go : (o : Option ℕ) → position is_wrong (mixed_table s) ≡ o → (is_accepted (mixed_verdict_at s o) ≡ true) ↔ AreFoundAsStated s (shifts_of s)
    go None e = (
      λ h x i. eqb-true (found_at s (shifts_of s) x.0 x.1) (target s x.0 x.1) (not-false _ (none_at is_wrong (mixed_table s) e (pair_entry s (shifts_of s) x) (In-map (pair_entry s (shifts_of s)) (pair_rows s (shifts_of s)) x i))),
      λ all. refl,
    )
    go (Some place) e = (
      λ h. absurd (both_ways false refl h),
      λ all.
          let r = first_at is_wrong (mixed_table s) place no_entry e in
          let m = In-map_gives (pair_entry s (shifts_of s)) (pair_rows s (shifts_of s)) (get_or (mixed_table s) place no_entry) r.1 in
          let same : is_wrong (get_or (mixed_table s) place no_entry) ≡ false = sym (ap is_wrong m.2) ∙ ap not (eq-eqb (found_at s (shifts_of s) m.0.0 m.0.1) (target s m.0.0 m.0.1) (all m.0 m.1)) in
          absurd (both_ways (is_wrong (get_or (mixed_table s) place no_entry)) same r.2),
    )

-- and exactly where the development is balanced
pub accepts_balance : (s : Stated) → IsStated s → (is_accepted (mixed_verdict s) ≡ true) ↔ IsBalanced s (mixed_development s)
accepts_balance s is =
    let r = accepts_rows s in
    let b = pair_balance s is (shifts_of s) (shifts_subgroup s is) in
    (λ h. b.0 (r.0 h), λ h. r.1 (b.1 h))

-- a verdict speaks of a row
pub verdict_is : (s : Stated) → IsMixedVerdictOn s (mixed_verdict s)
verdict_is s = go (position is_wrong (mixed_table s)) refl
  where
    go : (o : Option ℕ) → position is_wrong (mixed_table s) ≡ o → IsMixedVerdictOn s (mixed_verdict_at s o)
    go None e = tt
    go (Some place) e = (first_at is_wrong (mixed_table s) place no_entry e).0

-- an accepting verdict has the length of the development
accepted_from : (s : Stated) → is_accepted (mixed_verdict s) ≡ true → mixed_verdict s ≡ Accepted (length (mixed_development s))
accepted_from s = go (position is_wrong (mixed_table s))
  where
    go : (o : Option ℕ) → is_accepted (mixed_verdict_at s o) ≡ true → mixed_verdict_at s o ≡ Accepted (length (mixed_development s))
    go None h = refl
    go (Some place) h = absurd (both_ways false refl h)

family_from : (s : Stated) → family_verdicts.is_accepted (family_verdicts.verdict_on s) ≡ true → family_verdicts.verdict_on s ≡ family.Accepted (length (develop s))
family_from s = go (find family_tables.is_wrong (family_tables.table s))
  where
    go : (o : Option Entry) → family_verdicts.is_accepted (family_verdicts.verdict_at s o) ≡ true → family_verdicts.verdict_at s o ≡ family.Accepted (length (develop s))
    go None h = refl
    go (Some e) h = absurd (both_ways false refl h)

pub whole_group : WholeGroupLaw
whole_group s is e =
    let same : mixed_development s ≡ develop s = ap (develop_under s) e in
    let mixed = accepts_balance s is in
    let family_law = verdict_law s is in
    let to_family : is_accepted (mixed_verdict s) ≡ true → family_verdicts.is_accepted (family_verdicts.verdict_on s) ≡ true = λ h. family_law.1 (subst (IsBalanced s) same (mixed.0 h)) in
    let to_mixed : family_verdicts.is_accepted (family_verdicts.verdict_on s) ≡ true → is_accepted (mixed_verdict s) ≡ true = λ h. mixed.1 (subst (IsBalanced s) (sym same) (family_law.0 h)) in
    record {
      development = same;
      accepted = λ blocks. (
        λ h.
            let k : is_accepted (mixed_verdict s) ≡ true = ap is_accepted h in
            family_from s (to_family k) ∙ ap (λ l. family.Accepted (length l)) (sym same) ∙ ap (λ (v : MixedVerdict). family.Accepted (blocks_of v)) (sym (accepted_from s k) ∙ h),
        λ h.
            let k : family_verdicts.is_accepted (family_verdicts.verdict_on s) ≡ true = ap family_verdicts.is_accepted h in
            accepted_from s (to_mixed k) ∙ ap (λ l. Accepted (length l)) same ∙ ap (λ v. Accepted (family_blocks_of v)) (sym (family_from s k) ∙ h),
      );
    }
  where
    blocks_of : MixedVerdict → ℕ
    blocks_of (Accepted blocks) = blocks
    blocks_of (Refused place found stated) = 0

    family_blocks_of : Verdict → ℕ
    family_blocks_of (family.Accepted blocks) = blocks
    family_blocks_of (family.Refused row found stated) = 0
