-- The images of a base block, met one after another.
use Rattle.std.proofs.Common.{◌≡◌, ℕ, ◌+◌, ◌<◌, ◌≤◌, ◌≢◌, Bool, true, false, List, map, length, Option, sym, ap, ◌∙◌, subst, inl, inr, ◌⊎◌, ⊎_elim, arith}
use Rattle.std.specs.List.{range_with_len}
use Rattle.std.proofs.lemmas.Bool.{false≢true, cases_eq}
use Rattle.df_lists.specs.Membership.{In}
use Rattle.df_lists.proofs.MemberLaws.{In-map, In-range}
use Rattle.df_maps.specs.FullMaps.{MapGroup, full_maps, image, map_number}
use Rattle.df_maps.specs.Laws.{AreGroup}
use Rattle.df_design.specs.LeftBlocks.{is_after, IsSettled, IsMet, IsImageAfter, AreMet}
use Rattle.df_design.proofs.DesignBlocks.{map_numbered}

module _ (M : MapGroup) (A : AreGroup M) (b : List ℕ) (last : Option (List ℕ)) (old : List (List ℕ)) where
  -- an image that comes after the last block is met
  pub met_more : (ready new : List (List ℕ)) (i : ℕ) (y : List ℕ) → AreMet M b last old ready i → i < length (full_maps M) → y ≡ image M (map_number M i) b → is_after last y ≡ true → IsMet ready y new → AreMet M b last old new (i + 1)
  met_more ready new i y m l e after h =
      let full = subst (λ maps. In maps (map_number M i)) (sym A.numbered) (In-map (map_number M) (range_with_len 0 (length (full_maps M))) i (In-range 0 (length (full_maps M)) i (omega arith) (omega (arith, l)))) in
      record {
        sorted = h.sorted;
        inside = λ z j. ⊎_elim (λ k. m.inside z k) (λ same. inr (record { map = map_number M i; full = full; image_is = sym e ∙ sym same; after = ap (is_after last) same ∙ after })) (h.inside z j);
        images = λ j k a. ⊎_elim (λ same. subst (λ n. IsSettled new (image M (map_number M n) b)) (sym same) (subst (IsSettled new) e h.here)) (λ ne. let less : j < i = omega arith in h.still (image M (map_number M j) b) (m.images j less a)) (cases_eq j i);
        still = λ z k. h.still z (m.still z k);
      }

  -- an image that doesn't is passed over
  pub met_same : (ready : List (List ℕ)) (i : ℕ) (y : List ℕ) → AreMet M b last old ready i → y ≡ image M (map_number M i) b → is_after last y ≡ false → AreMet M b last old ready (i + 1)
  met_same ready i y m e before_it = record {
    sorted = m.sorted;
    inside = m.inside;
    images = λ j k a. ⊎_elim (λ same. absurd (false≢true (sym before_it ∙ ap (is_after last) e ∙ subst (λ n. is_after last (image M (map_number M n) b) ≡ true) same a))) (λ ne. let less : j < i = omega arith in m.images j less a) (cases_eq j i);
    still = m.still;
  }

  -- once all maps were taken, each image after the last block is settled
  pub met_all : (ready : List (List ℕ)) (i : ℕ) → AreMet M b last old ready i → length (full_maps M) ≤ i → (z : List ℕ) → IsImageAfter M b last z → IsSettled ready z
  met_all ready i m l z h =
      let g = map_numbered M A h.map h.full in
      let same : image M (map_number M g.0) b ≡ z = ap (λ f. image M f b) g.2 ∙ h.image_is in
      subst (IsSettled ready) same (m.images g.0 (omega (arith, l, g.1)) (ap (is_after last) same ∙ h.after))
