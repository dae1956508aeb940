-- What is used of a challenge: it is below q, and the message of a dealing is told by its members' figures. Then the rule, and rounds.
use mathlib.Core.Path.{◌≡◌, refl, sym, ap, ◌∙◌}
use mathlib.Core.Bool.{Bool, true, false}
use mathlib.Core.List.{List, [], ◌∷◌, ◌++◌, append_assoc}
use Prim.Native.Nat.{ℕ, suc, ◌-◌, ◌*◌, ◌%◌, ◌^◌, ◌≤◌, ◌<◌}
use native.Mathlib.Nat.{mod-lt}
use native.Mathlib.Omega.{arith}
use borrow.Author.Tests.{eqb-true, eq-eqb}
use lib.ListN.{length, get_or, take, drop, length-append}
use lib.Dec.{eqb}
use Rattle.words.specs.Choice.{pick}
use Rattle.words.specs.Lists.{All, up_from}
use Rattle.words.specs.Bytes.{word_at, word_bytes, words_bytes, big_endian}
use Rattle.words.proofs.Lists.{All-each, map-length, map-all, up-length}
use Rattle.words.proofs.Tests.{pick_true, pick-false, false-true}
use Rattle.words.proofs.Bytes.{word-length, words-length, word_back}
use Rattle.sha256.specs.Hash.{hash}
use Rattle.sha256.proofs.Values.{hash-bytes}
use Rattle.sharing.specs.Setting.{ProperSetting, members}
use Rattle.sharing.specs.Carried.{CheckPolynomial}
use Rattle.sharing.specs.declared.Setting.{Setting}
use Rattle.sharing.proofs.EachMember.{each-members}
use Rattle.challenge.specs.Exponent.{exponent_of}
use Rattle.challenge.specs.Message.{dealing_tag, coefficient_tag, head_bytes, round_bytes, message, bytes_over, roundless_head, roundless_message, challenge_of}
use Rattle.challenge.specs.Message.{dealing_figures, share_figures, coefficient_figures, dealing_message, share_message, coefficient_message, check_polynomial}
use Rattle.challenge.specs.Claims.{ChallengeLow, ChallengeByRule, RuleEnters, RoundZero, RoundHashed}
use Rattle.challenge.specs.Claims.{Hashed, dealing, opened, added, coefficient, tag_of, message_of}
use Rattle.challenge.proofs.Buffers.{members-length, round-none, round-some}

pub order-positive : {S : Setting} → ProperSetting S → 0 < S.group.q
order-positive P = omega (arith, P.proper.prime-q.above-one)

pub challenge-low : ChallengeLow
unfolding challenge_of exponent_of
challenge-low S P l = mod-lt _ (order-positive P)

pub challenge-by-rule : ChallengeByRule
unfolding challenge_of exponent_of
challenge-by-rule S m =
    let D = hash m in
    let number : List ℕ → ℕ = λ bs. big_endian 0 bs % S.group.q in
    record {
      size = (hash-bytes m).0;
      new = λ e. ap number (pick_true S.whole_digest D (take 8 D) e);
      old = λ e. ap number (pick-false S.whole_digest D (take 8 D) e);
    }

pub rule-enters : RuleEnters
unfolding exponent_of
rule-enters S T e f D = λ j. big_endian 0 (pick (f j) D (take 8 D)) % e j

-- the judge's own coefficients are challenges
pub check-polynomial : (S : Setting) → ProperSetting S → (d : ℕ) (v Y : ℕ → ℕ) → CheckPolynomial S (check_polynomial S d v Y)
unfolding check_polynomial
check-polynomial S P d v Y =
    let f : ℕ → ℕ = λ k. challenge_of S (coefficient_message S d v Y k) in
    let ks : List ℕ = up_from 0 (S.n - S.t) in
    record {
      size = map-length f ks ∙ up-length 0 (S.n - S.t);
      low = map-all f (λ c. c < S.group.q) ks (All-each ks (λ k. challenge-low S P (coefficient_message S d v Y k)));
    }

-- in round 0 the head is that of the scope paper
head-of-zero : (S : Setting) → S.round ≡ 0 → (tag d : ℕ) → head_bytes tag S d ≡ roundless_head tag S d
unfolding head_bytes roundless_head
head-of-zero S e tag d = ap (λ (bs : List ℕ). tag ∷ S.number ∷ S.n ∷ S.t ∷ (bs ++ (d ∷ []))) (round-none S.round e)

pub round-zero : RoundZero
unfolding dealing_message share_message coefficient_message
round-zero S e d =
    let roundless : (tag : ℕ) (rest : List ℕ) → message tag S d rest ≡ roundless_message tag S d rest =
    λ tag rest. ap (λ (h : List ℕ). h ++ rest) (head-of-zero S e tag d) in
    record {
      dealing = λ v Y a1 a2. roundless dealing_tag (dealing_figures S.n v Y a1 a2);
      share = λ tag i y Y Z a1 a2. roundless tag (share_figures i y Y Z a1 a2);
      coefficient = λ v Y k. roundless coefficient_tag (coefficient_figures S.n v Y k);
    }

-- what stands behind t tells the round
round-told : (r s : ℕ) → r < 2 ^ 32 → s < 2 ^ 32 → (x y : List ℕ) → length x ≡ length y → round_bytes r ++ x ≡ round_bytes s ++ y → r ≡ s
round-told r s h k x y e f = by_tests (eqb r 0) (eqb s 0) refl refl
  where
    sizes : length (round_bytes r) ≡ length (round_bytes s)
    sizes = omega (arith, e, length-append (round_bytes r) x, length-append (round_bytes s) y, ap length f)

    none : (w : ℕ) → eqb w 0 ≡ true → length (round_bytes w) ≡ 0
    none w t = ap length (round-none w (eqb-true w 0 t))

    some : (w : ℕ) → eqb w 0 ≡ false → round_bytes w ≡ word_bytes w
    some w t = round-some w (λ z. false-true (sym t ∙ eq-eqb w 0 z))

    by_tests : (a b : Bool) → eqb r 0 ≡ a → eqb s 0 ≡ b → r ≡ s
    by_tests true true p q = eqb-true r 0 p ∙ sym (eqb-true s 0 q)
    by_tests true false p q = absurd (omega (arith, sizes, none r p, ap length (some s q), word-length s))
    by_tests false true p q = absurd (omega (arith, sizes, none s q, ap length (some r p), word-length r))
    by_tests false false p q =
        sym (word_back r x h)
        ∙ ap (λ (t : List ℕ). word_at t 0) (ap (λ (t : List ℕ). t ++ x) (sym (some r p)) ∙ f ∙ ap (λ (t : List ℕ). t ++ y) (some s q))
        ∙ word_back s y k

-- ---- a message of any kind
rest_of : ℕ → Hashed → List ℕ
rest_of n (dealing v Y a1 a2) = dealing_figures n v Y a1 a2
rest_of n (opened i y Y Z a1 a2) = share_figures i y Y Z a1 a2
rest_of n (added i y Y Z a1 a2) = share_figures i y Y Z a1 a2
rest_of n (coefficient v Y k) = coefficient_figures n v Y k

headed : (S : Setting) (d : ℕ) (x : Hashed) → message_of S d x ≡ message (tag_of x) S d (rest_of S.n x)
unfolding dealing_message share_message coefficient_message rest_of
headed S d (dealing v Y a1 a2) = refl
headed S d (opened i y Y Z a1 a2) = refl
headed S d (added i y Y Z a1 a2) = refl
headed S d (coefficient v Y k) = refl

-- tag and n tell how many bytes stand behind its head
rest_size : ℕ → ℕ → ℕ
rest_size tag n = pick (eqb tag dealing_tag) (16 * n) (pick (eqb tag coefficient_tag) (suc (8 * n)) 21)

rest-size : (n : ℕ) (x : Hashed) → length (rest_of n x) ≡ rest_size (tag_of x) n
unfolding rest_of rest_size
rest-size n (dealing v Y a1 a2) = members-length (λ i. v i ∷ Y i ∷ a1 i ∷ a2 i ∷ []) 16 (λ i. refl) n
rest-size n (opened i y Y Z a1 a2) = ap suc (words-length (y ∷ Y ∷ Z ∷ a1 ∷ a2 ∷ []))
rest-size n (added i y Y Z a1 a2) = ap suc (words-length (y ∷ Y ∷ Z ∷ a1 ∷ a2 ∷ []))
rest-size n (coefficient v Y k) = ap suc (members-length (λ i. v i ∷ Y i ∷ []) 8 (λ i. refl) n)

pub round-hashed : RoundHashed
unfolding head_bytes
round-hashed S T h k d e x y f =
    let a = rest_of S.n x in
    let b = rest_of T.n y in
    let m : message (tag_of x) S d a ≡ message (tag_of y) T e b = sym (headed S d x) ∙ f ∙ headed T e y in
    let tags : tag_of x ≡ tag_of y = ap (λ (l : List ℕ). get_or l 0 0) m in
    let ns : S.n ≡ T.n = ap (λ (l : List ℕ). get_or l 2 0) m in
    let sizes : length a ≡ length b = rest-size S.n x ∙ (λ j. rest_size (tags j) (ns j)) ∙ sym (rest-size T.n y) in
    let behind : round_bytes S.round ++ (d ∷ a) ≡ round_bytes T.round ++ (e ∷ b) =
    sym (append_assoc (round_bytes S.round) (d ∷ []) a) ∙ ap (drop 4) m ∙ append_assoc (round_bytes T.round) (e ∷ []) b in
    (tags, round-told S.round T.round h k (d ∷ a) (e ∷ b) (ap suc sizes) behind)

pub bytes_same : (f g : ℕ → List ℕ) (is : List ℕ) → All (λ i. f i ≡ g i) is → bytes_over f is ≡ bytes_over g is
unfolding bytes_over
bytes_same f g [] h = refl
bytes_same f g (i ∷ is) h = λ j. words_bytes (h.0 j) ++ bytes_same f g is h.1 j

pub message-same : (S : Setting) (d : ℕ) (v Y a b v' Y' a' b' : ℕ → ℕ)
    → ((i : ℕ) → 1 ≤ i → i ≤ S.n → v i ∷ Y i ∷ a i ∷ b i ∷ [] ≡ v' i ∷ Y' i ∷ a' i ∷ b' i ∷ [])
    → dealing_message S d v Y a b ≡ dealing_message S d v' Y' a' b'
unfolding dealing_message
message-same S d v Y a b v' Y' a' b' h =
    let f : ℕ → List ℕ = λ i. v i ∷ Y i ∷ a i ∷ b i ∷ [] in
    let g : ℕ → List ℕ = λ i. v' i ∷ Y' i ∷ a' i ∷ b' i ∷ [] in
    ap (message dealing_tag S d) (bytes_same f g (members S.n) (each-members (λ i. f i ≡ g i) S.n h))
