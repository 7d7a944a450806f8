-- One part more in a frame.
use Rattle.std.proofs.Common.{◌≡◌, ℕ, List, [], ◌∷◌, ◌++◌, length, sym, ap, ◌∙◌, append_assoc, append-nil}
use Rattle.auditor.specs.Bytes.{big_endian, framed}

pub framed_push : (parts : List (List ℕ)) (part : List ℕ) → (framed parts ++ big_endian 8 (length part)) ++ part ≡ framed (parts ++ part ∷ [])
framed_push [] part = ap (big_endian 8 (length part) ++◌) (sym (append-nil part))
framed_push (first ∷ parts) part =
    let prefix = big_endian 8 (length first) in
    let more = big_endian 8 (length part) in
    ap (λ (xs : List ℕ). (prefix ++ xs) ++ part) (append_assoc first (framed parts) more)
    ∙ append_assoc prefix (first ++ (framed parts ++ more)) part
    ∙ ap (prefix ++◌) (append_assoc first (framed parts ++ more) part ∙ ap (first ++◌) (framed_push parts part))
