-- How much longer the canonical spelling can be than the script that it was read from.
use Rattle.std.proofs.Common.{◌≡◌, ℕ, zero, suc, ◌+◌, ◌^◌, ◌<◌, ◌≤◌, Bool, true, false, cond, not, eqb, List, [], ◌∷◌, ◌++◌, length, ℤ, pos, neg_ℤ, Some, None, codes, decimal, Option, unwrap_or, refl, subst, append_assoc, arith, length-append}
use lib.Signed.{mag}
use Rattle.std.proofs.lemmas.Fmt.{length-decimal-le}
use Rattle.std.proofs.lemmas.Str.Parse.{digits_value_short}
use Rattle.std.proofs.lemmas.Bool.{and_parts, false≢true}
use Rattle.std.specs.Fmt.{signed_decimal}
use Rattle.tokens.specs.Numbers.{is_empty, all_digits, is_numeral, value, has_minus, after_minus, is_number, with_sign}
use Rattle.tokens.specs.Tokens.{Mark, closing, begun, ended, spell}
use Rattle.forms.specs.declared.form.Setting.{Setting}
use Rattle.forms.specs.declared.form.Setting.TheVariants.{Cycle, Start, Timeout, Catch}
use Rattle.lines.specs.Lines.{bytes_of}
use Rattle.forms.specs.Meaning.{Act, sleep, spawn, wake, abort, stop, await, done, fault, Task, Plan}
use Rattle.grammar.specs.Reads.{Writes, with_name, with_number, SaysAct, SaysActs, SaysSetting, SaysTask, SettingLines, TaskLines, cycle_in, start_in, timeout_in, catch_in, Reads}
use Rattle.grammar.specs.Spellable.{Fits}
use Rattle.grammar.specs.Spelled.{spelled_act, spelled_acts, spelled_task, spelled_tasks, spelled_timeout, spelled_catch, spelled}
use Rattle.grammar.proofs.Canonical.{spell_with_number, spell_with_name, spell_await, spell_titled}
use Rattle.grammar.proofs.Decimals.{own, mag_fits_32, mag_fits_64}

-- a number is written in no more bytes than the digits that say it

some_bytes : (w : List ℕ) → not (is_empty w) ≡ true → 0 < length w
some_bytes [] h = absurd (false≢true h)
some_bytes (b ∷ w) h = omega arith

length_decimal_value : (n : ℕ) (w : List ℕ) → Fits 64 n → is_numeral w ≡ true → value w ≡ n → length (decimal n) ≤ length w
length_decimal_value n w fits numeral e =
    let both = and_parts (not (is_empty w)) (all_digits w) numeral in
    length-decimal-le (length w) n (some_bytes w both.0) (subst (λ m. m < 10 ^ length w) e (digits_value_short own w (length w) both.1 (omega arith))) fits

length_minus_value : (v : ℕ) (w : List ℕ) → is_numeral w ≡ true → value w ≡ v → mag (neg_ℤ (pos v)) < 2 ^ 63 → length (signed_decimal (neg_ℤ (pos v))) ≤ suc (length w)
length_minus_value zero w numeral e small = omega (arith, length_decimal_value 0 w (omega arith) numeral e)
length_minus_value (suc m) w numeral e small = omega (arith, length_decimal_value (suc m) w (omega arith) numeral e)

length_signed_value : (z : ℤ) (w : List ℕ) → mag z < 2 ^ 63 → is_number w ≡ true → with_sign (has_minus w) (value (after_minus w)) ≡ z → length (signed_decimal z) ≤ length w
length_signed_value z [] small num e = absurd (false≢true num)
length_signed_value z (b ∷ w) small num e = go (eqb b 45) num e
  where
    go : (minus : Bool) → is_numeral (cond minus w (b ∷ w)) ≡ true → with_sign minus (value (cond minus w (b ∷ w))) ≡ z → length (signed_decimal z) ≤ length (b ∷ w)
    go true numeral same = subst (λ y. mag y < 2 ^ 63 → length (signed_decimal y) ≤ length (b ∷ w)) same (length_minus_value (value w) w numeral refl) small
    go false numeral same =
        subst (λ y. mag y < 2 ^ 63 → length (signed_decimal y) ≤ length (b ∷ w)) same (λ less. length_decimal_value (value (b ∷ w)) (b ∷ w) (omega arith) numeral refl) small

-- steps and tasks are spelled in no more bytes than what says them

number_step : (k v w : List ℕ) (front back : List Mark) → front ≡ with_number k w → length v ≤ length w → 1 + length (40 ∷ (k ++ (32 ∷ (v ++ codes ")")))) + length (spell ended back) ≤ length (spell ended (front ++ back))
number_step k v w front back e le = rw (e, spell_with_number k w back) (simp length-append (omega arith))

name_step : (k w : List ℕ) (front back : List Mark) → front ≡ with_name k w → 1 + length (40 ∷ (k ++ (32 ∷ (w ++ codes ")")))) + length (spell ended back) ≤ length (spell ended (front ++ back))
name_step k w front back e = rw (e, spell_with_name k w back) (simp length-append (omega arith))

spelled_act_short : (a : Act) (front back : List Mark) → SaysAct a front → 1 + length (spelled_act a) + length (spell ended back) ≤ length (spell ended (front ++ back))
spelled_act_short (sleep n) front back h = number_step (codes "sleep") (decimal n) h.0 front back h.1 (length_decimal_value n h.0 h.2.2 h.2.0 h.2.1)
spelled_act_short (spawn w) front back h = name_step (codes "spawn") w front back h
spelled_act_short (wake w) front back h = name_step (codes "wake") w front back h
spelled_act_short (abort w) front back h = name_step (codes "abort") w front back h
spelled_act_short (stop z) front back h =
    number_step (codes "stop") (signed_decimal z) h.0 front back h.1 (length_signed_value z h.0 (mag_fits_32 z (h.2.2, h.2.3)) h.2.0 h.2.1)
spelled_act_short await front back h = rw (h, spell_await back) (omega arith)
spelled_act_short (done z) front back h =
    number_step (codes "done") (signed_decimal z) h.0 front back h.1 (length_signed_value z h.0 (mag_fits_64 z (h.2.2, h.2.3)) h.2.0 h.2.1)
spelled_act_short (fault n) front back h =
    let small : n < 2 ^ 32 = h.2.2 in
    number_step (codes "fault") (decimal n) h.0 front back h.1 (length_decimal_value n h.0 (omega arith) h.2.0 h.2.1)

spelled_acts_short : (acts : List Act) (ms back : List Mark) → SaysActs acts ms → length (spelled_acts acts) + length (spell ended back) ≤ length (spell ended (ms ++ back))
unfolding SaysActs spelled_acts
spelled_acts_short [] ms back h = rw h (omega arith)
spelled_acts_short (a ∷ more) ms back h =
    let one = spelled_act_short a h.0 (h.1 ++ back) h.3 in
    let rest = spelled_acts_short more h.1 back h.4 in
    rw (h.2, append_assoc h.0 h.1 back, length-append (spelled_act a) (spelled_acts more)) (omega arith)

length_closing : length (spell ended (closing ∷ [])) ≡ 1
unfolding spell
length_closing = refl

spelled_task_short : (t : Task) (ms : List Mark) → SaysTask t ms → length (spelled_task t) ≤ length (spell begun ms) + 1
spelled_task_short t ms h =
    let acts = spelled_acts_short t.acts h.0 (closing ∷ []) h.2 in
    rw (h.1, spell_titled t.name (h.0 ++ closing ∷ [])) (simp length-append (omega (arith, length_closing)))

spelled_tasks_short : (n : ℕ) (ts : List Task) (ls : List (List ℕ)) → TaskLines n ts ls → length (spelled_tasks ts) ≤ length (bytes_of ls)
unfolding TaskLines spelled_tasks bytes_of
spelled_tasks_short n [] ls h = omega arith
spelled_tasks_short n (t ∷ ts) [] h = absurd h
spelled_tasks_short n (t ∷ ts) (l ∷ ls) h =
    let one = subst (λ (bs : List ℕ). length (spelled_task t) ≤ length bs + 1) h.1.2 (spelled_task_short t h.1.0 h.1.4) in
    let rest = spelled_tasks_short (n + 1) ts ls h.2 in
    rw (length-append (spelled_task t) (spelled_tasks ts), length-append l (10 ∷ bytes_of ls)) (omega arith)

-- settings are spelled in no more bytes than what says them, but for those that were left out

-- the bytes of a number's line, if it is given
abbrev number_bytes : ℕ → Option ℕ → ℕ
number_bytes keyword None = 0
number_bytes keyword (Some n) = keyword + (4 + length (decimal n))

abbrev catch_bytes : Bool → ℕ
catch_bytes b = cond b 8 0

-- the bytes of a setting's line
abbrev setting_bytes : Setting → ℕ
setting_bytes (Cycle n) = 9 + length (decimal n)
setting_bytes (Start n) = 9 + length (decimal n)
setting_bytes (Timeout n) = 11 + length (decimal n)
setting_bytes Catch = 8

abbrev settings_bytes : List Setting → ℕ
settings_bytes [] = 0
settings_bytes (s ∷ ss) = setting_bytes s + settings_bytes ss

number_setting : (k w : List ℕ) (n : ℕ) (ms : List Mark) → ms ≡ with_number k w → Writes 64 n w → length k + 4 + length (decimal n) ≤ length (spell begun ms) + 1
unfolding spell
number_setting k w n ms e h =
    let le = length_decimal_value n w h.2 h.0 h.1 in
    rw e (simp length-append (omega arith))

setting_short : (s : Setting) (ms : List Mark) → SaysSetting s ms → setting_bytes s ≤ length (spell begun ms) + 1
unfolding spell
setting_short (Cycle n) ms h = omega (arith, number_setting (codes "cycle") h.0 n ms h.1 h.2)
setting_short (Start n) ms h = omega (arith, number_setting (codes "start") h.0 n ms h.1 h.2)
setting_short (Timeout n) ms h = omega (arith, number_setting (codes "timeout") h.0 n ms h.1 h.2)
setting_short Catch ms h = rw h (omega arith)

settings_short : (ss : List Setting) (ls : List (List ℕ)) → SettingLines ss ls → settings_bytes ss ≤ length (bytes_of ls)
unfolding SettingLines bytes_of
settings_short [] ls h = omega arith
settings_short (s ∷ ss) [] h = absurd h
settings_short (s ∷ ss) (l ∷ ls) h =
    let one = subst (λ (bs : List ℕ). setting_bytes s ≤ length bs + 1) h.0.2 (setting_short s h.0.0 h.0.4) in
    let rest = settings_short ss ls h.1 in
    rw (length-append l (10 ∷ bytes_of ls)) (omega arith)

given_short : (ss : List Setting) → number_bytes 5 (cycle_in ss) + number_bytes 5 (start_in ss) + number_bytes 7 (timeout_in ss) + catch_bytes (catch_in ss) ≤ settings_bytes ss
unfolding cycle_in start_in timeout_in catch_in
given_short [] = omega arith
given_short (Cycle n ∷ ss) = omega (arith, given_short ss)
given_short (Start n ∷ ss) = omega (arith, given_short ss)
given_short (Timeout n ∷ ss) = omega (arith, given_short ss)
given_short (Catch ∷ ss) = omega (arith, given_short ss)

cycle_short : (o : Option ℕ) → 9 + length (decimal (unwrap_or o 1000000)) ≤ number_bytes 5 o + 16
cycle_short None = omega (arith, length-decimal-le 7 1000000 (omega arith) (omega arith) (omega arith))
cycle_short (Some n) = omega arith

start_short : (o : Option ℕ) → 9 + length (decimal (unwrap_or o 0)) ≤ number_bytes 5 o + 10
start_short None = omega (arith, length-decimal-le 1 0 (omega arith) (omega arith) (omega arith))
start_short (Some n) = omega arith

timeout_short : (o : Option ℕ) → length (spelled_timeout o) ≡ number_bytes 7 o
timeout_short None = refl
timeout_short (Some n) = simp length-append (omega arith)

catch_short : (b : Bool) → length (spelled_catch b) ≡ catch_bytes b
catch_short true = refl
catch_short false = refl

length_spelled : (p : Plan) → length (spelled p) ≡ (9 + length (decimal p.cycle)) + (9 + length (decimal p.start)) + length (spelled_timeout p.timeout) + length (spelled_catch p.catch) + length (spelled_tasks p.tasks)
length_spelled p = simp length-append (omega arith)

length_bytes_of : (ks ls : List (List ℕ)) → length (bytes_of (ks ++ ls)) ≡ length (bytes_of ks) + length (bytes_of ls)
unfolding bytes_of
length_bytes_of [] ls = omega arith
length_bytes_of (k ∷ ks) ls =
    rw (length-append k (10 ∷ bytes_of (ks ++ ls)), length-append k (10 ∷ bytes_of ks)) (omega (arith, length_bytes_of ks ls))

pub spelled_grows : (bs : List ℕ) (p : Plan) → Reads bs p → length (spelled p) ≤ length bs + 26
spelled_grows bs p r =
    let ss = r.settings in
    let cycle : 9 + length (decimal p.cycle) ≤ number_bytes 5 (cycle_in ss) + 16 = rw r.follows.0 (cycle_short (cycle_in ss)) in
    let start : 9 + length (decimal p.start) ≤ number_bytes 5 (start_in ss) + 10 = rw r.follows.1 (start_short (start_in ss)) in
    let timeout : length (spelled_timeout p.timeout) ≡ number_bytes 7 (timeout_in ss) = rw r.follows.2 (timeout_short (timeout_in ss)) in
    let catch : length (spelled_catch p.catch) ≡ catch_bytes (catch_in ss) = rw r.follows.3 (catch_short (catch_in ss)) in
    let given = given_short ss in
    let heads = settings_short ss r.heads r.says_settings in
    let bodies = spelled_tasks_short (length r.heads + 1) p.tasks r.bodies r.says_tasks in
    let source = length_bytes_of r.heads r.bodies in
    rw (length_spelled p, r.bytes) (omega arith)
