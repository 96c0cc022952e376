-- Places of blocks among all of their size.
use Rattle.std.proofs.Common.{◌≡◌, ℕ, ◌<◌, true, List, [], get_or, sym, ap, ◌∙◌, subst, arith, eqb, eq-eqb, eqb-true, slice_get, Some}
use Rattle.std.proofs.lemmas.Option.{slice_get-get_or, get_or_from_slice_get}
use Rattle.df_subsets.specs.Subsets.{subsets, binomial, same_list, rank}
use Rattle.df_subsets.proofs.SubsetLists.{subsets_long, same_list-gives, same_list-self}
use Rattle.df_subsets.proofs.Places.{rank_of}
use Rattle.df_lists.proofs.TestLaws.{same_tests}

-- a block stands at its rank alone
pub rank_test : (v k : ℕ) (b : List ℕ) (r place : ℕ) → slice_get (subsets v k) r ≡ Some b → r ≡ rank v b → place < binomial v k → eqb r place ≡ same_list b (get_or (subsets v k) place [])
rank_test v k b r place at is within =
    same_tests (eqb r place) (same_list b (get_or (subsets v k) place []))
    (λ h. let e = get_or_from_slice_get (subsets v k) r b [] at in subst (λ j. same_list b (get_or (subsets v k) j []) ≡ true) (eqb-true r place h) (subst (λ c. same_list b c ≡ true) (sym e) (same_list-self b)))
    (λ h. let e = same_list-gives b (get_or (subsets v k) place []) h in
    let there = slice_get-get_or (subsets v k) place [] (omega (arith, subsets_long v k, within)) in
    eq-eqb r place (is ∙ ap (rank v) e ∙ rank_of v k place (get_or (subsets v k) place []) there))
