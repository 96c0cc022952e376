-- The sizes of a problem: at most fifteen, since they rise from 2 to 16.
use Rattle.std.proofs.Common.{◌≡◌, ℕ, ◌+◌, ◌≤◌, List, [], ◌∷◌, length, arith, Ok, refl, sym}
use Rattle.df_lists.specs.NumberSets.{with_member, Rises}
use Rattle.df_lang.specs.declared.fault.SourceFault.TheVariants.{SizeRange}
use Rattle.df_lang.specs.Rules.{number_in}
use Rattle.df_lang.specs.Values.{sizes_from}

pub rises_few : (low v : ℕ) (b : List ℕ) → low ≤ v → Rises low v b → length b + low ≤ v
rises_few low v [] h rise = omega arith
rises_few low v (p ∷ b) h rise =
    let ih = rises_few (p + 1) v b (omega (arith, rise.1)) rise.2 in
    omega (arith, ih, rise.0)

-- one token more, of a size k
pub sizes_step : (most k : ℕ) (ks token : List ℕ) (tokens : List (List ℕ)) → Ok k ≡ number_in 2 most SizeRange token → sizes_from most (with_member k ks) tokens ≡ sizes_from most ks (token ∷ tokens)
unfolding sizes_from
sizes_step most k ks token tokens is = sym (rw (sym is) refl)
