-- What holds of a refusal, test by test.
use Rattle.std.proofs.Common.{◌≡◌, ◌<◌, ◌≤◌, Bool, true, false, cond, ltb, leb, Some, None, Option, refl}
use Rattle.std.proofs.lemmas.Bool.{ltb-true, leb-true}
use Rattle.deterministic.specs.declared.refusal.Refusal.{Refusal}
use Rattle.deterministic.specs.declared.refusal.Refusal.TheVariants as refusal
use Rattle.deterministic.specs.Model.{Model, free}
use Rattle.deterministic.specs.Refusals.{unless, ◌else◌, call_granted, room}

module _ (P : Option Refusal → Type 0) where
  -- whatever the refusal is
  pub either : (o : Option Refusal) → P None → ((r : Refusal) → P (Some r)) → P o
  either None granted refused = granted
  either (Some r) granted refused = refused r

  -- the condition holds and the next ones decide, or it is refused
  pub unless_else : (b : Bool) (r : Refusal) (next : Option Refusal) → (b ≡ true → P next) → P (Some r) → P (unless b r else next)
  unless_else true r next granted refused = granted refl
  unless_else false r next granted refused = refused

  pub unless_alone : (b : Bool) (r : Refusal) → (b ≡ true → P None) → P (Some r) → P (unless b r)
  unless_alone true r granted refused = granted refl
  unless_alone false r granted refused = refused

  -- it is refused where a condition holds, or the next ones decide
  pub where_else : (b : Bool) (r : Refusal) (next : Option Refusal) → P next → P (Some r) → P (cond b (Some r) None else next)
  where_else true r next granted refused = refused
  where_else false r next granted refused = granted

  pub granted_else : (m : Model) (next : Option Refusal) → (m.body.granted < 4096 → P next) → P (Some refusal.NoRoom) → P (call_granted m else next)
  granted_else m next granted refused = unless_else (ltb m.body.granted 4096) refusal.NoRoom next (λ e. granted (ltb-true _ _ e)) refused

  pub granted_alone : (m : Model) → (m.body.granted < 4096 → P None) → P (Some refusal.NoRoom) → P (call_granted m)
  granted_alone m granted refused = unless_alone (ltb m.body.granted 4096) refusal.NoRoom (λ e. granted (ltb-true _ _ e)) refused

  pub room_else : (m : Model) (next : Option Refusal) → (m.body.granted < 4096 → 512 ≤ free m → P next) → P (Some refusal.NoRoom) → P (room m else next)
  room_else m next granted refused = go (ltb m.body.granted 4096) (leb 512 (free m)) refl refl where
    go : (a b : Bool) → ltb m.body.granted 4096 ≡ a → leb 512 (free m) ≡ b → P ((unless a refusal.NoRoom else unless b refusal.NoRoom) else next)
    go false b p q = refused
    go true false p q = refused
    go true true p q = granted (ltb-true _ _ p) (leb-true _ _ q)

  pub room_alone : (m : Model) → (m.body.granted < 4096 → 512 ≤ free m → P None) → P (Some refusal.NoRoom) → P (room m)
  room_alone m granted refused = go (ltb m.body.granted 4096) (leb 512 (free m)) refl refl where
    go : (a b : Bool) → ltb m.body.granted 4096 ≡ a → leb 512 (free m) ≡ b → P (unless a refusal.NoRoom else unless b refusal.NoRoom)
    go false b p q = refused
    go true false p q = refused
    go true true p q = granted (ltb-true _ _ p) (leb-true _ _ q)
