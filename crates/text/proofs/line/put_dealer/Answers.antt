-- `put_dealer` meets its contract: the dealer's number, a space, the verdict and the line end are written one behind the other.
use mathlib.Core.List.{List, [], ◌∷◌, ◌++◌}
use Prim.Native.Nat.{ℕ}
use Rattle.text.specs.Text.{figure, new_line, dealer_word, verdict_text, dealer_line}
use Rattle.text.proofs.Writing.{first-room, second-room, third-room, fourth-room, all-four}
use Rattle.text.proofs.line.put_dealer.Goals as goal

abbrev head : ℕ → List ℕ
head d = dealer_word ++ figure d

pub put_worded-a-requires : goal.put_worded-a-requires
unfolding dealer_line
put_worded-a-requires c = first-room (head c.args.d) (32 ∷ []) (verdict_text c.args.v) new_line c.requires

pub put_bytes-b-requires : goal.put_bytes-b-requires
unfolding dealer_line
put_bytes-b-requires c = second-room (head c.args.d) (32 ∷ []) (verdict_text c.args.v) new_line c.requires c.put_worded-a.ensures

pub put_verdict-c-requires : goal.put_verdict-c-requires
unfolding dealer_line
put_verdict-c-requires c =
    third-room (head c.args.d) (32 ∷ []) (verdict_text c.args.v) new_line c.requires c.put_worded-a.ensures c.put_bytes-b.ensures

pub put_bytes-requires : goal.put_bytes-requires
unfolding dealer_line
put_bytes-requires c =
    fourth-room (head c.args.d) (32 ∷ []) (verdict_text c.args.v) new_line c.requires c.put_worded-a.ensures c.put_bytes-b.ensures
    c.put_verdict-c.ensures

pub returns : goal.returns
unfolding dealer_line
returns c =
    all-four (head c.args.d) (32 ∷ []) (verdict_text c.args.v) new_line c.requires c.put_worded-a.ensures c.put_bytes-b.ensures
    c.put_verdict-c.ensures
    c.put_bytes.ensures
