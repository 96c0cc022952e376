-- Paths, read back from their lines.
use Rattle.std.proofs.Common.{◌≡◌, ℕ, suc, ◌<◌, ◌≤◌, ◌^◌, false, List, [], ◌∷◌, ◌++◌, map, All, Some, option_map, codes, decimal, refl, sym, ap, ◌∙◌, arith, append_assoc}
use Rattle.df_io.specs.Lines.{tokens_of}
use Rattle.df_io.specs.Joined.{Each, IsToken, spaced}
use Rattle.df_io.proofs.Joining.{tokens_back}
use Rattle.df_io.proofs.NumbersBack.{decimal_token}
use Rattle.df_walk.specs.Paths.{WrittenPath, IsWritten}
use Rattle.df_dossier.specs.Tokens.{◌>>?◌, after_spaces}
use Rattle.df_dossier.specs.Paths.{places_of, path_read, path_part, past, past_count, spent_path, path_tokens, path_text, end_tokens, HasPath}
use Rattle.df_dossier.specs.RoundTrips.{PathsReadBack}
use Rattle.df_dossier.proofs.NumbersRead.{within_back, place_back, word_token}
use Rattle.df_dossier.proofs.Joins.{join_after}

-- numbers of columns, one after the other
abbrev ArePlaces : List ℕ → Type 0
ArePlaces cs = Each (λ c. c ≤ 4294967295) cs

places_from : (size : ℕ) (cs : List ℕ) → size ≤ 4294967295 → All (λ c. c < size) cs → ArePlaces cs
places_from size [] high all = tt
places_from size (c ∷ cs) high all =
    let here : c < size = all 0 0 (omega arith) in
    (omega (arith, here, high), places_from size cs high (λ k d h. all (suc k) d (omega (arith, h))))

places_back : (cs : List ℕ) → ArePlaces cs → places_of (map decimal cs) ≡ Some cs
unfolding places_of
places_back [] are = refl
places_back (c ∷ cs) are =
    ap (λ o. o >>? λ n. option_map (λ ns. n ∷ ns) (places_of (map decimal cs))) (place_back c are.0)
    ∙ ap (option_map (λ ns. c ∷ ns)) (places_back cs are.1)

places_tokens : (cs : List ℕ) → ArePlaces cs → Each IsToken (map decimal cs)
places_tokens [] are = tt
places_tokens (c ∷ cs) are = (decimal_token c (omega (arith, are.0)), places_tokens cs are.1)

path_back : (p : WrittenPath) → IsWritten p → p.size ≤ 4294967295 → path_read (path_tokens p) ≡ Some p
path_back p is high =
    ap (λ o. o >>? λ n. option_map (λ cs. record { size = n; chosen = cs }) (places_of (map decimal p.chosen))) (place_back p.size high)
    ∙ ap (option_map (λ cs. record { size = p.size; chosen = cs })) (places_back p.chosen (places_from p.size p.chosen high is.within))

pub path_tokens_are : (p : WrittenPath) → IsWritten p → p.size ≤ 4294967295 → Each IsToken (path_tokens p)
path_tokens_are p is high = (decimal_token p.size (omega (arith, high)), places_tokens p.chosen (places_from p.size p.chosen high is.within))

-- joined tokens, and then others each after a space
spaced_after : (token : List ℕ) (tokens more : List (List ℕ)) → spaced (token ∷ tokens) ++ after_spaces more ≡ spaced (token ∷ (tokens ++ more))
spaced_after token [] more = sym (join_after token more)
spaced_after token (next ∷ tokens) more = append_assoc token (32 ∷ spaced (next ∷ tokens)) (after_spaces more) ∙ ap (λ l. token ++ 32 ∷ l) (spaced_after next tokens more)

begins_back : (p : WrittenPath) → IsWritten p → p.size ≤ 4294967295 → HasPath (codes "from" ++ path_text p) p
begins_back p is high =
    let line : codes "from" ++ path_text p ≡ spaced (codes "from" ∷ path_tokens p) = spaced_after (codes "from") [] (path_tokens p) in
    let tokens : tokens_of (codes "from" ++ path_text p) ≡ codes "from" ∷ path_tokens p =
    ap tokens_of line ∙ tokens_back (codes "from" ∷ path_tokens p) (word_token (codes "from") (omega arith) refl, path_tokens_are p is high) in record {
      stated = ap (λ ts. path_part ts >>? path_read) tokens ∙ path_back p is high;
      written = is;
    }

count_back : (n : ℕ) (tokens : List (List ℕ)) → n < 2 ^ 64 → past_count (decimal n ∷ tokens) ≡ Some tokens
count_back n tokens small = ap (option_map (λ m. tokens)) (within_back 0 18446744073709551615 n (omega arith) (omega (arith, small)) (omega arith))

-- the tokens of a spent end line
pub spent_tokens : (p : WrittenPath) (designs nodes : ℕ) → IsWritten p → p.size ≤ 4294967295 → designs < 2 ^ 64 → nodes < 2 ^ 64
    → tokens_of (spaced (end_tokens false designs nodes) ++ path_text p)
    ≡ codes "end" ∷ codes "spent" ∷ codes "designs" ∷ decimal designs ∷ codes "nodes" ∷ decimal nodes ∷ codes "next" ∷ path_tokens p
spent_tokens p designs nodes is high few_designs few_nodes =
    let all = codes "spent" ∷ codes "designs" ∷ decimal designs ∷ codes "nodes" ∷ decimal nodes ∷ codes "next" ∷ path_tokens p in
    let line : spaced (end_tokens false designs nodes) ++ path_text p ≡ spaced (codes "end" ∷ all) =
    spaced_after (codes "end") (codes "spent" ∷ codes "designs" ∷ decimal designs ∷ codes "nodes" ∷ decimal nodes ∷ codes "next" ∷ []) (path_tokens p) in
    ap tokens_of line
    ∙ tokens_back (codes "end" ∷ all) (
      word_token (codes "end") (omega arith) refl,
      (
        word_token (codes "spent") (omega arith) refl,
        (
          word_token (codes "designs") (omega arith) refl,
          (
            decimal_token designs few_designs,
            (
              word_token (codes "nodes") (omega arith) refl,
              (
                decimal_token nodes few_nodes,
                (word_token (codes "next") (omega arith) refl, path_tokens_are p is high),
              ),
            ),
          ),
        ),
      ),
    )

spent_back : (p : WrittenPath) (designs nodes : ℕ) → IsWritten p → p.size ≤ 4294967295 → designs < 2 ^ 64 → nodes < 2 ^ 64 → HasPath (spaced (end_tokens false designs nodes) ++ path_text p) p
unfolding spent_path
spent_back p designs nodes is high few_designs few_nodes =
    let behind = codes "next" ∷ path_tokens p in
    let mid = codes "nodes" ∷ decimal nodes ∷ behind in record {
      stated =
          ap (λ ts. path_part ts >>? path_read) (spent_tokens p designs nodes is high few_designs few_nodes)
          ∙ ap (λ o. o >>? past (codes "nodes") >>? past_count >>? past (codes "next") >>? path_read) (count_back designs mid few_designs)
          ∙ ap (λ o. o >>? past (codes "next") >>? path_read) (count_back nodes behind few_nodes)
          ∙ path_back p is high;
      written = is;
    }

pub paths_back : PathsReadBack
paths_back p is high = record {
  begins = begins_back p is high;
  spent = λ designs nodes few_designs few_nodes. spent_back p designs nodes is high few_designs few_nodes;
}
