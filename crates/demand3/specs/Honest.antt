-- Honest delegates meet the hypotheses, in every proper setting of a round whose number is a word: what is written from proper figures is accepted, true, and recovers
-- the secret.
use Rattle.std.specs.Prelude.{◌≡◌, List, ℕ, ◌*◌, ◌^◌, ◌<◌, ◌≤◌, Ok}
use Rattle.words.specs.Lists.{All, map, entry}
use Rattle.field.specs.Polynomial.{value_at}
use Rattle.group.specs.declared.Group.{Group}
use Rattle.sharing.specs.Setting.{ProperSetting}
use Rattle.sharing.specs.Answer.{recovery_in}
use Rattle.sharing.specs.Carried.{Quorum, secret_of}
use Rattle.sharing.specs.declared.Setting.{Setting}
use Rattle.sharing.specs.Sum.{product_of, sum_of}
use Rattle.lines.specs.Lines.{Y_in}
use Rattle.dealing.specs.Dealing.{write_dealing_in, written_dealing}
use Rattle.share.specs.Share.{opened_form, added_form, key_of, share_of, write_share_in, written_share, judge_share_in}
use Rattle.demand3.specs.Claims.{power_of_h}

-- x is the secret key of member i, whose key stands among the keys ys
pub record HoldsKey (G : Group) (ys : List ℕ) (i x : ℕ) : Type 0 where
  pub some : 1 ≤ x
  pub low : x < G.q
  pub key : entry ys i ≡ key_of G x

-- the Y in the line of member i of a written dealing
abbrev pub line_Y : Setting → ℕ → List ℕ → List ℕ → List ℕ → ℕ → ℕ
line_Y S d ys f ws i = Y_in (written_dealing S d ys f ws) i

-- "Everything written from proper figures is accepted", for the share that a member writes from his line of a written dealing and his
-- secret key: it is accepted with his key and the line's Y, and answers h to the polynomial's value at him
abbrev pub LineShareAccepted : Type 0
LineShareAccepted =
    (S : Setting) → ProperSetting S → S.round < 2 ^ 32 → (d : ℕ) (ys f ws : List ℕ) → write_dealing_in S d ys f ws (32 * S.n) ≡ Ok tt
    → (i x w : ℕ) → 1 ≤ i → i ≤ S.n → HoldsKey S.group ys i x → w < S.group.q
    → (write_share_in S (opened_form d) i (line_Y S d ys f ws i) x w 32 ≡ Ok tt)
    × (judge_share_in S (opened_form d) i (entry ys i) (line_Y S d ys f ws i) (written_share S (opened_form d) i (line_Y S d ys f ws i) x w)
    ≡ Ok (record { 0 = power_of_h S.group (value_at S.group.q f i) }))

-- and such shares of t or more members recover the dealing's secret
abbrev pub WrittenRecovered : Type 0
WrittenRecovered =
    (S : Setting) → ProperSetting S → S.round < 2 ^ 32 → (d : ℕ) (ys f ws : List ℕ) → write_dealing_in S d ys f ws (32 * S.n) ≡ Ok tt
    → (x : ℕ → ℕ) (ms : List ℕ) → Quorum S ms → All (λ i. HoldsKey S.group ys i (x i)) ms
    → recovery_in S ms (map (λ i. share_of S.group (line_Y S d ys f ws i) (x i)) ms) ≡ Ok (record { 0 = power_of_h S.group (secret_of S f) })

-- ---- added shares
-- the Y in the lines of member i, of dealings that the dealers ds have written with the polynomials f and the nonces ws, multiplied
abbrev pub lines_Y : Setting → List ℕ → List ℕ → (ℕ → List ℕ) → (ℕ → List ℕ) → ℕ → ℕ
lines_Y S ds ys f ws i = product_of S.group.p (map (λ d. line_Y S d ys (f d) (ws d) i) ds)

-- the added share that a member writes from his lines of written dealings and his secret key is accepted with his key and the product of the
-- lines' Y, and it is true: it answers h to the value at him of the polynomials' sum
abbrev pub AddedShareAccepted : Type 0
AddedShareAccepted =
    (S : Setting) → ProperSetting S → S.round < 2 ^ 32 → (ds ys : List ℕ) (f ws : ℕ → List ℕ)
    → All (λ d. write_dealing_in S d ys (f d) (ws d) (32 * S.n) ≡ Ok tt) ds
    → (i x w : ℕ) → 1 ≤ i → i ≤ S.n → HoldsKey S.group ys i x → w < S.group.q
    → (write_share_in S added_form i (lines_Y S ds ys f ws i) x w 32 ≡ Ok tt)
    × (judge_share_in S added_form i (entry ys i) (lines_Y S ds ys f ws i) (written_share S added_form i (lines_Y S ds ys f ws i) x w)
    ≡ Ok (record { 0 = power_of_h S.group (value_at S.group.q (sum_of S (map f ds)) i) }))
