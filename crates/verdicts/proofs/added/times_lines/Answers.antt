-- `times_lines` meets its contract: each line multiplies the product of the next member.
use mathlib.Core.Path.{◌≡◌, refl, sym, ap, ◌∙◌}
use mathlib.Core.List.{List, [], ◌∷◌, ◌++◌}
use Prim.Native.Nat.{ℕ, suc, ◌+◌, ◌-◌, ◌<◌}
use native.Mathlib.Omega.{arith}
use lib.ListN.{length, get_or, take, drop, set}
use lib.Seq.{take-suc-set, take_all, drop-set-lt, drop-drop, get_or-drop}
use Rattle.words.specs.Lists.{map, entry}
use Rattle.words.specs.Bytes.{record_at}
use Rattle.words.specs.declared.Record.{Record}
use Rattle.words.proofs.Lists.{map-append, up-last, entry_at}
use Rattle.field.specs.Residue.{mul}
use Rattle.sharing.specs.Setting.{members}
use Rattle.records.specs.Layout.{Y_of}
use Rattle.lines.specs.Lines.{Y_in}
use Rattle.verdicts.proofs.added.times_lines.Goals as goal

-- the figure that stands at i, where the rest from i on is as it was
kept_at : (l old : List ℕ) (i : ℕ) → drop i l ≡ drop i old → get_or l i 0 ≡ entry old (i + 1)
kept_at l old i e =
    let z : i ≡ i + 0 = omega arith in
    ap (λ (k : ℕ). get_or l k 0) z ∙ sym (get_or-drop i l 0 0) ∙ ap (λ (r : List ℕ). get_or r 0 0) e ∙ get_or-drop i old 0 0
    ∙ ap (λ (k : ℕ). get_or old k 0) (sym z) ∙ entry_at old i

one_less : (l old : List ℕ) (i : ℕ) → drop i l ≡ drop i old → drop (i + 1) l ≡ drop (i + 1) old
one_less l old i e = sym (drop-drop 1 i l) ∙ ap (drop 1) e ∙ drop-drop 1 i old

turned : (f : ℕ → ℕ) (l : List ℕ) (i x : ℕ) → i < length l → take i l ≡ map f (members i) → x ≡ f (i + 1) → take (i + 1) (set l i x) ≡ map f (members (i + 1))
turned f l i x h e v =
    let s : i + 1 ≡ suc i = omega arith in
    let n : i + 1 ≡ 1 + i = omega arith in
    ap (λ (k : ℕ). take k (set l i x)) s
    ∙ take-suc-set l i x h
    ∙ (λ j. e j ++ ((v ∙ ap f n) j ∷ []))
    ∙ sym (ap (map f) (up-last 1 i) ∙ map-append f (members i) ((1 + i) ∷ []))

pub loop-i-init : goal.loop-i-init
loop-i-init c = record { done = refl; rest = refl }

pub loop-i-preserved : goal.loop-i-preserved
unfolding Y_in
loop-i-preserved c =
    let l = c.loop-i in
    let a = c.args in
    let i = l.i in
    let index : i + 1 - 1 ≡ i = omega arith in
    let line = ap (λ (x : Record). Y_of x) (c.record_at.ensures ∙ ap (record_at a.lines.now) (sym index)) in
    record {
      done =
          turned (λ j. mul a.gr.p (Y_in a.lines.now j) (entry a.products.now j)) l.products i c.times.result.0 (omega arith) l.invariant.done
          (c.times.ensures ∙ (λ j. mul a.gr.p (line j) (kept_at l.products a.products.now i l.invariant.rest j)));
      rest = drop-set-lt (i + 1) l.products i c.times.result.0 (omega arith) ∙ one_less l.products a.products.now i l.invariant.rest;
    }

pub returns : goal.returns
returns c =
    let l = c.loop-i in
    let a = c.args in
    let end : l.i ≡ length a.products.now = omega arith in
    sym (take_all l.i l.products (omega arith))
    ∙ l.invariant.done
    ∙ ap (λ (k : ℕ). map (λ j. mul a.gr.p (Y_in a.lines.now j) (entry a.products.now j)) (members k)) end
