-- Why a search can't go on at a path: there is a reason exactly where the path is no node of the system.
use Rattle.std.proofs.Common.{◌≡◌, ℕ, ◌<◌, ◌≤◌, Bool, true, false, nat_lt, cond, length, Option, Some, None, refl, sym, ap, ◌∙◌, arith}
use Rattle.std.specs.Prelude.{◌==◌}
use Rattle.std.specs.List.{list_any}
use Rattle.std.specs.Option.{option_map}
use Rattle.std.proofs.lemmas.Bool.{lt-ltb, ltb-false, le-ltb}
use Rattle.std.proofs.lemmas.List.FromFn.{length-map-range_with_len}
use Rattle.df_walk.specs.declared.Rules.{Rules}
use Rattle.df_walk.specs.Systems.{System}
use Rattle.df_walk.specs.Paths.{WrittenPath, path_of, IsNode}
use Rattle.df_search.specs.declared.Why.{Why}
use Rattle.df_search.specs.Resumptions.{IsWhy}
use Rattle.df_search.specs.Reasons.{why_no_node, PathsHaveReasons}
use Rattle.df_tell.specs.Path.{path_refusal_text}
use Rattle.df_tell.specs.declared.path.PathRefusal.TheVariants.{Long, NoNode}
use Rattle.df_run.specs.Limits.{path_refusal}

-- the same numbers are printed alike
pub same_text : {a b c d : ℕ} → a ≡ b → c ≡ d → path_refusal_text (Long a c) ≡ path_refusal_text (Long b d)
same_text {b = b} {c = c} e f = ap (λ n. path_refusal_text (Long n c)) e ∙ ap (λ m. path_refusal_text (Long b m)) f

module _ (reasons : PathsHaveReasons) (rules : Rules) (s : System) (w : WrittenPath) where
  refusal_by : (long : Bool) (why : Option Why) → nat_lt (length s.columns) w.size ≡ long → why_no_node rules s (path_of w) ≡ why → path_refusal rules s w ≡ cond long (Some (Long w.size (length s.columns))) (option_map NoNode why)
  refusal_by long why a b = rw (a, b) refl

  size_is : length (path_of w) ≡ w.size
  size_is = length-map-range_with_len (λ column. list_any (λ c. c == column) w.chosen) 0 w.size

  pub too_long : length s.columns < w.size → path_refusal rules s w ≡ Some (Long w.size (length s.columns))
  too_long long = refusal_by true (why_no_node rules s (path_of w)) (lt-ltb (length s.columns) w.size long) refl

  pub no_node : w.size ≤ length s.columns → (why : Why) → IsWhy rules s (path_of w) why → path_refusal rules s w ≡ Some (NoNode why)
  no_node fits why is = refusal_by false (Some why) (le-ltb (length s.columns) w.size fits) ((reasons rules s (path_of w)).why why is)

  pub node_goes_on : IsNode rules s (path_of w) → path_refusal rules s w ≡ None
  node_goes_on node = refusal_by false None (le-ltb (length s.columns) w.size (omega (arith, node.short, size_is))) ((reasons rules s (path_of w)).node.1 node.node)

  pub no_refusal : path_refusal rules s w ≡ None → IsNode rules s (path_of w)
  no_refusal none = by (nat_lt (length s.columns) w.size) (why_no_node rules s (path_of w)) refl refl
    where
      by : (long : Bool) (why : Option Why) → nat_lt (length s.columns) w.size ≡ long → why_no_node rules s (path_of w) ≡ why → IsNode rules s (path_of w)
      by true why a b = absurd (let h = sym (refusal_by true why a b) ∙ none in cc)
      by false (Some why) a b = absurd (let h = sym (refusal_by false (Some why) a b) ∙ none in cc)
      by false None a b = record {
        short = omega (arith, ltb-false (length s.columns) w.size a, size_is);
        node = (reasons rules s (path_of w)).node.0 b;
      }
