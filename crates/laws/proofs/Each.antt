-- What is said of each round with the rounds before it and those after it, by recursion and by place.
use Rattle.std.proofs.Common.{List, [], ◌∷◌, ◌++◌, sym, subst, append_assoc, append-nil}
use Rattle.deterministic.specs.History.{Round, Each}

-- of each of these rounds, with those before
unfoldable pub EachFrom : (List Round → Round → List Round → Type 0) → List Round → List Round → Type 0
EachFrom Says before [] = Unit {0}
EachFrom Says before (r ∷ after) = Says before r after × EachFrom Says (before ++ r ∷ []) after

at_place : (Says : List Round → Round → List Round → Type 0) (past before : List Round) (r : Round) (after : List Round) → EachFrom Says past (before ++ r ∷ after) → Says (past ++ before) r after
unfolding EachFrom
at_place Says past [] r after e = subst (λ (l : List Round). Says l r after) (sym (append-nil past)) e.0
at_place Says past (x ∷ before) r after e =
    subst (λ (l : List Round). Says l r after) (append_assoc past (x ∷ []) before) (at_place Says (past ++ x ∷ []) before r after e.1)

-- what holds of each round in turn holds at each place
pub each : (Says : List Round → Round → List Round → Type 0) (rounds : List Round) → EachFrom Says [] rounds → Each Says rounds
each Says rounds e before r after q = at_place Says [] before r after (subst (EachFrom Says []) q e)
