-- End lines, read back.
use Rattle.std.proofs.Common.{◌≡◌, ℕ, ◌<◌, ◌^◌, true, false, List, [], ◌∷◌, Some, option_map, codes, decimal, refl, ap, ◌∙◌, arith}
use Rattle.df_io.specs.Lines.{tokens_of}
use Rattle.df_io.specs.Joined.{spaced}
use Rattle.df_io.proofs.Joining.{tokens_back}
use Rattle.df_io.proofs.NumbersBack.{decimal_token}
use Rattle.df_dossier.specs.declared.judge.DossierFault.TheVariants.{BadEnd}
use Rattle.df_dossier.specs.declared.judge.Piece.TheVariants.{End}
use Rattle.df_dossier.specs.declared.judge.Awaits.TheVariants.{Log, Next}
use Rattle.df_dossier.specs.Tokens.{◌>>?◌, ending}
use Rattle.df_dossier.specs.Paths.{past, path_tokens, end_tokens}
use Rattle.df_dossier.specs.Judging.{judged, judged_or, tokens_judged, named_count, finished_of, spent_of}
use Rattle.df_dossier.specs.RoundTrips.{EndReadsBack, EndsReadBack}
use Rattle.df_dossier.proofs.NumbersRead.{within_back, word_token}
use Rattle.df_dossier.proofs.PathsBack.{spent_tokens}

designs_back : (n : ℕ) (more : List (List ℕ)) → n < 2 ^ 64 → named_count (codes "designs") (codes "designs" ∷ decimal n ∷ more) ≡ Some record { n = n; more = more }
designs_back n more small = ap (option_map (λ m. record { n = m; more = more })) (within_back 0 18446744073709551615 n (omega arith) (omega (arith, small)) (omega arith))

nodes_back : (n : ℕ) (more : List (List ℕ)) → n < 2 ^ 64 → named_count (codes "nodes") (codes "nodes" ∷ decimal n ∷ more) ≡ Some record { n = n; more = more }
nodes_back n more small = ap (option_map (λ m. record { n = m; more = more })) (within_back 0 18446744073709551615 n (omega arith) (omega (arith, small)) (omega arith))

module _ (designs nodes : ℕ) (few_designs : designs < 2 ^ 64) (few_nodes : nodes < 2 ^ 64) where
  pub finished_back : finished_of (codes "designs" ∷ decimal designs ∷ codes "nodes" ∷ decimal nodes ∷ []) ≡ Some (End true designs nodes)
  finished_back =
      ap (λ o. o >>? λ d. named_count (codes "nodes") d.more >>? λ n. ending n.more (End true d.n n.n)) (designs_back designs (codes "nodes" ∷ decimal nodes ∷ []) few_designs)
      ∙ ap (λ o. o >>? λ n. ending n.more (End true designs n.n)) (nodes_back nodes [] few_nodes)

  pub spent_back : (tokens : List (List ℕ)) → spent_of (codes "designs" ∷ decimal designs ∷ codes "nodes" ∷ decimal nodes ∷ codes "next" ∷ tokens) ≡ Some (End false designs nodes)
  spent_back tokens =
      ap (λ o. o >>? λ d. named_count (codes "nodes") d.more >>? λ n. option_map (λ path. End false d.n n.n) (past (codes "next") n.more)) (designs_back designs (codes "nodes" ∷ decimal nodes ∷ codes "next" ∷ tokens) few_designs)
      ∙ ap (λ o. o >>? λ n. option_map (λ path. End false designs n.n) (past (codes "next") n.more)) (nodes_back nodes (codes "next" ∷ tokens) few_nodes)

  pub finished_line : tokens_of (spaced (end_tokens true designs nodes)) ≡ end_tokens true designs nodes
  finished_line =
      tokens_back (end_tokens true designs nodes) (
        word_token (codes "end") (omega arith) refl,
        (
          word_token (codes "finished") (omega arith) refl,
          (
            word_token (codes "designs") (omega arith) refl,
            (decimal_token designs few_designs, (word_token (codes "nodes") (omega arith) refl, (decimal_token nodes few_nodes, tt))),
          ),
        ),
      )

  pub end_back : EndReadsBack designs nodes
  end_back = record {
    finished = λ rules. ap (tokens_judged (Log rules)) finished_line ∙ ap (λ o. Some (judged_or BadEnd (option_map (judged Next) o))) finished_back;
    spent = λ rules p is high. ap (tokens_judged (Log rules)) (spent_tokens p designs nodes is high few_designs few_nodes)
        ∙ ap (λ o. Some (judged_or BadEnd (option_map (judged Next) o))) (spent_back (path_tokens p));
  }

pub ends_back : EndsReadBack
ends_back designs nodes few_designs few_nodes = end_back designs nodes few_designs few_nodes
