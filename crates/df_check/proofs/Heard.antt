-- Answers without their refusals, step after step.
use Rattle.std.proofs.Common.{◌≡◌, Option, Some, None, Result, Ok, Err, refl}
use Rattle.df_lang.specs.Rules.{◌>>=◌}
use Rattle.df_dossier.specs.Tokens.{◌>>?◌}

-- the value, where there is one
abbrev pub heard : {A E : Type 0} → Result A E → Option A
heard (Ok x) = Some x
heard (Err e) = None

pub heard_is : {A E : Type 0} (r : Result A E) (x : A) → heard r ≡ Some x → r ≡ Ok x
heard_is (Ok y) x h = cc
heard_is (Err e) x h = absurd (cc)

pub heard_join : {A B C E : Type 0} (r : Result A E) (f : A → Result B E) (g : B → Option C) → (heard (r >>= f) >>? g) ≡ (heard r >>? λ x. heard (f x) >>? g)
heard_join (Ok x) f g = refl
heard_join (Err e) f g = refl

-- the steps after a value are the same where they are the same for each
pub then_same : {A B : Type 0} (o : Option A) (f g : A → Option B) → ((x : A) → o ≡ Some x → f x ≡ g x) → (o >>? f) ≡ (o >>? g)
then_same None f g same = refl
then_same (Some x) f g same = same x refl

-- nothing comes of it
pub then_none : {A B : Type 0} (o : Option A) (f : A → Option B) → ((x : A) → o ≡ Some x → f x ≡ None) → (o >>? f) ≡ None
then_none None f none = refl
then_none (Some x) f none = none x refl
