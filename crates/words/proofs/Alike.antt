-- Lists of checks that test the same one by one, and refuse by another only where a test holds: they answer the same.
use mathlib.Core.Path.{◌≡◌, refl, ap, ◌∙◌}
use mathlib.Core.Bool.{Bool, true, false}
use mathlib.Core.List.{List, [], ◌∷◌, ◌++◌}
use Rattle.words.specs.Choice.{pick}
use Rattle.words.specs.Checks.{Check, outcome}
use Rattle.std.specs.Prelude.{Err}
use Rattle.words.proofs.Tests.{pick_true, pick-false}

abbrev pub Alike : List Check → List Check → Type 0
Alike [] [] = Unit
Alike [] (d ∷ ds) = ⊥
Alike (c ∷ cs) [] = ⊥
Alike (c ∷ cs) (d ∷ ds) = (c.met ≡ d.met) × (d.met ≡ false → c.by ≡ d.by) × Alike cs ds

alike_same : (cs : List Check) → Alike cs cs
alike_same [] = tt
alike_same (c ∷ cs) = (refl, λ e. refl, alike_same cs)

alike_both : (cs ds es fs : List Check) → Alike cs ds → Alike es fs → Alike (cs ++ es) (ds ++ fs)
alike_both [] [] es fs a b = b
alike_both [] (d ∷ ds) es fs a b = absurd a
alike_both (c ∷ cs) [] es fs a b = absurd a
alike_both (c ∷ cs) (d ∷ ds) es fs a b = (a.0, a.1, alike_both cs ds es fs a.2 b)

-- behind the same stage, and before it
pub alike-behind : (cs ds es : List Check) → Alike ds es → Alike (cs ++ ds) (cs ++ es)
alike-behind cs ds es a = alike_both cs cs ds es (alike_same cs) a

pub alike-before : (cs ds es : List Check) → Alike cs ds → Alike (cs ++ es) (ds ++ es)
alike-before cs ds es a = alike_both cs ds es es a (alike_same es)

chosen : {A : Type 0} (s t : Bool) (x y u v : A) → s ≡ t → x ≡ y → (t ≡ false → u ≡ v) → pick s x u ≡ pick t y v
chosen s true x y u v e f g = pick_true s x u e ∙ f
chosen s false x y u v e f g = pick-false s x u e ∙ g refl

pub alike-outcome : {A : Type 0} (cs ds : List Check) (a : A) → Alike cs ds → outcome cs a ≡ outcome ds a
alike-outcome [] [] a k = refl
alike-outcome [] (d ∷ ds) a k = absurd k
alike-outcome (c ∷ cs) [] a k = absurd k
alike-outcome (c ∷ cs) (d ∷ ds) a k =
    chosen c.met d.met _ _ _ _ k.0 (alike-outcome cs ds a k.2) (λ e. ap Err (k.1 e))
