-- A login's requests one after the other: its stage, the text kept, the answer that is due.
use Rattle.std.proofs.Common.{◌≡◌, ℕ, zero, suc, ◌+◌, ◌*◌, List, [], ◌∷◌, ◌++◌, length, drop, Bool, true, false, cond, ◌&&◌, ◌||◌, Option, Some, None, refl, sym, ap, ◌∙◌, arith, append_assoc, append-nil}
use Rattle.std.specs.Prelude.{flat_map, nat_lt}
use Rattle.std.specs.List.{fold}
use Rattle.std.specs.Option.{option_or}
use Rattle.std.proofs.lemmas.Bool.{ltb-false}
use Rattle.std.proofs.lemmas.List.Sums.{fold-append}
use Rattle.iscsi_pdu.specs.LoginRequest.{is_continued, current_stage}
use Rattle.iscsi_pdu.specs.Frames.{Frame}
use Rattle.iscsi_pdu.specs.declared.stage.Stage.{Stage}
use Rattle.iscsi_pdu.specs.declared.login_response.LoginStep.{LoginStep}
use Rattle.iscsi_pdu.specs.declared.login_response.LoginStep.TheVariants as steps
use Rattle.iscsi_login.specs.Directory.{KnownTargets}
use Rattle.iscsi_login.specs.LoginState.{LoginState, new_login}
use Rattle.iscsi_login.specs.Rules.{is_due, stage_with, interrupts, reads_text, pairs_with}
use Rattle.iscsi_login.specs.Login.{longest_piece, kept_with, heard, brought, stage_after, advanced, remembered}
use Rattle.iscsi_login.specs.Laws.{step_told, agreed, NoneAgrees, StageIsLastAgreed, NoneIsWhole, KeptIsSinceWhole, DueIsTheRest}

-- ---- what a request brings

-- it is read, or an answer is due, or it is kept
by_cases : (P : LoginState → Type 0) (reads due : Bool) (heard_ login kept_ : LoginState) → (reads ≡ true → P heard_) → (reads ≡ false → due ≡ true → P login)
    → (reads ≡ false → due ≡ false → P kept_) → P (cond reads heard_ (cond due login kept_))
by_cases P true due heard_ login kept_ a b c = a refl
by_cases P false true heard_ login kept_ a b c = b refl refl
by_cases P false false heard_ login kept_ a b c = c refl refl

heard_stage : (directory : KnownTargets) (login : LoginState) (request : Frame)
    → (heard directory login request.header (pairs_with login request)).stage ≡ login.stage
unfolding heard
heard_stage directory login request = refl

heard_kept : (directory : KnownTargets) (login : LoginState) (request : Frame) → (heard directory login request.header (pairs_with login request)).kept ≡ []
unfolding heard
heard_kept directory login request = refl

brought_stage : (directory : KnownTargets) (login : LoginState) (request : Frame) → (brought directory login request).stage ≡ login.stage
brought_stage directory login request =
    by_cases (λ x. x.stage ≡ login.stage) (reads_text login request) (is_due login) (heard directory login request.header (pairs_with login request))
    login (kept_with login request)
    (λ e. heard_stage directory login request) (λ e d. refl) (λ e d. refl)

whole_kept : (directory : KnownTargets) (login : LoginState) (request : Frame) → reads_text login request ≡ true → (brought directory login request).kept ≡ []
whole_kept directory login request whole =
    by_cases (λ x. x.kept ≡ []) (reads_text login request) (is_due login) (heard directory login request.header (pairs_with login request)) login
    (kept_with login request)
    (λ e. heard_kept directory login request) (λ e d. absurd (cc (whole, e))) (λ e d. absurd (cc (whole, e)))

-- while an answer is due nothing is said
or_false : (a b : Bool) → (a || b) ≡ false → b ≡ false
or_false true b e = absurd cc
or_false false b e = e

and_here : (a b : Bool) → a ≡ true → (a && b) ≡ false → b ≡ false
and_here true b e f = f
and_here false b e f = absurd cc

no_bytes : (bytes : List ℕ) → nat_lt 0 (length bytes) ≡ false → bytes ≡ []
no_bytes [] e = refl
no_bytes (b ∷ bytes) e = absurd (omega (arith, ltb-false 0 (length (b ∷ bytes)) e))

silent : (login : LoginState) (request : Frame) → is_due login ≡ true → interrupts login request ≡ false → request.body ≡ []
unfolding interrupts
silent login request due e = no_bytes request.body (or_false (is_continued request.header) (nat_lt 0 (length request.body)) (and_here (is_due login) _ due e))

part_kept : (directory : KnownTargets) (login : LoginState) (request : Frame) → reads_text login request ≡ false → interrupts login request ≡ false
    → (brought directory login request).kept ≡ login.kept ++ request.body
part_kept directory login request part quiet =
    by_cases (λ x. x.kept ≡ login.kept ++ request.body) (reads_text login request) (is_due login)
    (heard directory login request.header (pairs_with login request)) login (kept_with login request)
    (λ e. absurd (cc (part, e))) (λ e d. sym (ap (λ (body : List ℕ). login.kept ++ body) (silent login request d quiet) ∙ append-nil login.kept)) (λ e d. refl)

part_due : (directory : KnownTargets) (login : LoginState) (request : Frame) → reads_text login request ≡ false
    → (brought directory login request).due ≡ login.due
part_due directory login request part =
    by_cases (λ x. x.due ≡ login.due) (reads_text login request) (is_due login) (heard directory login request.header (pairs_with login request)) login
    (kept_with login request)
    (λ e. absurd (cc (part, e))) (λ e d. refl) (λ e d. refl)

-- ---- one request more

advanced_stage : (directory : KnownTargets) (login : LoginState) (request : Frame)
    → (advanced directory login request).stage ≡ stage_after (stage_with (brought directory login request) request.header) (step_told directory login request)
unfolding advanced
advanced_stage directory login request = refl

advanced_kept : (directory : KnownTargets) (login : LoginState) (request : Frame)
    → (advanced directory login request).kept ≡ (brought directory login request).kept
unfolding advanced
advanced_kept directory login request = refl

advanced_due : (directory : KnownTargets) (login : LoginState) (request : Frame)
    → (advanced directory login request).due ≡ drop longest_piece (brought directory login request).due
unfolding advanced
advanced_due directory login request = refl

enters : (was : Option Stage) (step : LoginStep) (stage : Stage) → agreed step ≡ Some stage → stage_after was step ≡ Some stage
enters was (steps.Enters next) stage e = e
enters was steps.Continued stage e = absurd cc
enters was steps.Stays stage e = absurd cc

stays : (was : Option Stage) (step : LoginStep) → agreed step ≡ None → stage_after was step ≡ was
stays was (steps.Enters next) e = absurd cc
stays was steps.Continued e = refl
stays was steps.Stays e = refl

stage_on : (directory : KnownTargets) (login : LoginState) (request : Frame) (stage : Stage) → agreed (step_told directory login request) ≡ None
    → login.stage ≡ Some stage
    → (advanced directory login request).stage ≡ Some stage
stage_on directory login request stage none at =
    advanced_stage directory login request ∙ stays (stage_with (brought directory login request) request.header) (step_told directory login request) none
    ∙ ap (λ (o : Option Stage). option_or o (current_stage request.header)) (brought_stage directory login request ∙ at)

-- ---- those that follow

stage_later : (directory : KnownTargets) (login : LoginState) (later : List Frame) (stage : Stage) → NoneAgrees directory login later → login.stage ≡ Some stage
    → (fold (advanced directory) login later).stage ≡ Some stage
stage_later directory login [] stage none at = at
stage_later directory login (request ∷ later) stage none at = stage_later directory (advanced directory login request) later stage none.1
    (stage_on directory login request stage none.0 at)

kept_later : (directory : KnownTargets) (login : LoginState) (later : List Frame) → NoneIsWhole directory login later
    → (fold (advanced directory) login later).kept ≡ login.kept ++ flat_map (λ request. request.body) later
kept_later directory login [] none = sym (append-nil login.kept)
kept_later directory login (request ∷ later) none =
    kept_later directory (advanced directory login request) later none.2
    ∙ ap (λ (text : List ℕ). text ++ flat_map (λ request. request.body) later)
    (advanced_kept directory login request ∙ part_kept directory login request none.0 none.1)
    ∙ append_assoc login.kept request.body (flat_map (λ request. request.body) later)

drop_none : (n : ℕ) → drop {A = ℕ} n [] ≡ []
drop_none zero = refl
drop_none (suc n) = refl

drop_twice : (m n : ℕ) (xs : List ℕ) → drop m (drop n xs) ≡ drop (n + m) xs
drop_twice m zero xs = ap (λ (k : ℕ). drop k xs) (omega arith)
drop_twice m (suc n) [] = drop_none m ∙ sym (drop_none (suc n + m))
drop_twice m (suc n) (x ∷ xs) =
    let sum : suc (n + m) ≡ suc n + m = omega arith in
    drop_twice m n xs ∙ ap (λ (k : ℕ). drop k (x ∷ xs)) sum

due_later : (directory : KnownTargets) (login : LoginState) (later : List Frame) → NoneIsWhole directory login later
    → (fold (advanced directory) login later).due ≡ drop (longest_piece * length later) login.due
due_later directory login [] none = refl
due_later directory login (request ∷ later) none =
    due_later directory (advanced directory login request) later none.2
    ∙ ap (drop (longest_piece * length later)) (advanced_due directory login request ∙ ap (drop longest_piece) (part_due directory login request none.0))
    ∙ drop_twice (longest_piece * length later) longest_piece login.due
    ∙ ap (λ (n : ℕ). drop n login.due) (omega arith)

behind : (directory : KnownTargets) (handle : ℕ) (before : List Frame) (request : Frame) (later : List Frame)
    → remembered directory handle (before ++ request ∷ later)
    ≡ fold (advanced directory) (advanced directory (remembered directory handle before) request) later
unfolding remembered
behind directory handle before request later = fold-append (advanced directory) (new_login handle) before (request ∷ later)

-- ---- the laws

pub stage_is_last_agreed : StageIsLastAgreed
stage_is_last_agreed directory handle before request later stage agrees none =
    let login = remembered directory handle before in
    ap (λ (l : LoginState). l.stage) (behind directory handle before request later)
    ∙ stage_later directory (advanced directory login request) later stage none
    (advanced_stage directory login request
    ∙ enters (stage_with (brought directory login request) request.header) (step_told directory login request) stage agrees)

pub kept_is_since_whole : KeptIsSinceWhole
kept_is_since_whole directory handle before whole later reads none =
    let login = remembered directory handle before in
    ap (λ (l : LoginState). l.kept) (behind directory handle before whole later) ∙ kept_later directory (advanced directory login whole) later none
    ∙ ap (λ (text : List ℕ). text ++ flat_map (λ request. request.body) later) (advanced_kept directory login whole ∙ whole_kept directory login whole reads)

pub due_is_the_rest : DueIsTheRest
due_is_the_rest directory handle before whole later none =
    let login = remembered directory handle before in
    ap (λ (l : LoginState). l.due) (behind directory handle before whole later) ∙ due_later directory (advanced directory login whole) later none
    ∙ ap (drop (longest_piece * length later)) (advanced_due directory login whole)
    ∙ drop_twice (longest_piece * length later) longest_piece (brought directory login whole).due
    ∙ ap (λ (n : ℕ). drop n (brought directory login whole).due) (omega arith)
