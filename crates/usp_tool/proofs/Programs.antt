-- What a run of the whole program leaves.
use Rattle.std.proofs.Common.{◌≡◌, refl, ap, subst, ℕ, List, [], ◌∷◌, ◌++◌, length, take, Option, Some, None, IfSome, IfNone}
use Rattle.usp_base.specs.declared.fault.Status.{Status}
use Rattle.usp_tool.specs.Edge.Run.{IsEdgeRun}
use Rattle.usp_tool.specs.Edge.Words.{EdgeWords, edge_of}
use Rattle.usp_tool.specs.Lab.Run as labs
use Rattle.usp_tool.specs.Lab.Words.{groups_of, workers_of}
use Rattle.usp_tool.specs.Play.Run.{IsPlayRun}
use Rattle.usp_tool.specs.Play.Words.{PlayWords, play_of}
use Rattle.usp_tool.specs.Program.{IsProgramRun, Scene, edge_scene, lab_scene, output_of, play_scene}
use Rattle.usp_tool.specs.Run.{IsRun}

took_self : {A : Type 0} (xs ys : List A) → take (length xs) (xs ++ ys) ≡ xs
took_self [] ys = refl
took_self (x ∷ xs) ys = ap (λ l. x ∷ l) (took_self xs ys)

-- a list is what is taken of itself and more, up to its length
pub took : {A : Type 0} (n : ℕ) (xs ys : List A) → length xs ≡ n → take n (xs ++ ys) ≡ xs
took n xs ys e = subst (λ m. take m (xs ++ ys) ≡ xs) e (took_self xs ys)

-- words of `edge` are none of `play`
no_play : (words : List (List ℕ)) (of : EdgeWords) (P : PlayWords → Type 0) → Some of ≡ edge_of words → IfSome (play_of words) P
no_play [] of P e = tt
no_play (a ∷ []) of P e = tt
no_play (a ∷ b ∷ []) of P e = tt
no_play (a ∷ b ∷ c ∷ []) of P e = let differ : ◌≡◌ {A = Option EdgeWords} (Some of) None = e in cc
no_play (a ∷ b ∷ c ∷ d ∷ words) of P e = tt

pub program_edge : {S W L B : Type 0} (words : List (List ℕ)) (before after : Scene S W L B) (status : Status) (of : EdgeWords)
    → Some of ≡ edge_of words → IsEdgeRun of (edge_scene before) (edge_scene after) status
    → after.lines.input ≡ before.lines.input → after.link ≡ before.link → after.bench ≡ before.bench
    → IsProgramRun words before after status
program_edge words before after status of e run input link bench = record {
  edge = subst (λ o. IfSome o (λ of. IsEdgeRun of (edge_scene before) (edge_scene after) status
      × ((after.lines.input ≡ before.lines.input) × (after.link ≡ before.link) × (after.bench ≡ before.bench)))) e
      (run, (input, link, bench));
  play = no_play words of (λ of. IsPlayRun of (play_scene before) (play_scene after) status
      × ((after.lines.input ≡ before.lines.input) × (after.workers ≡ before.workers) × (after.bench ≡ before.bench))) e;
  lab = subst (λ o. IfNone o (IfNone (play_of words) (IfSome (workers_of words) (λ workers.
      labs.IsLabRun workers (lab_scene before) (lab_scene after) status
      × ((after.workers ≡ before.workers) × (after.link ≡ before.link)))))) e tt;
  groups = subst (λ o. IfNone o (IfNone (play_of words) (IfNone (workers_of words) (IfSome (groups_of words)
      (λ groups. labs.PutsSums groups before.used after.used (output_of before) (output_of after) status
      × ((after.lines.asked ≡ before.lines.asked) × (after.lines.input ≡ before.lines.input)
      × (after.workers ≡ before.workers) × (after.link ≡ before.link))))))) e tt;
  lines = subst (λ o. IfNone o (IfNone (play_of words) (IfNone (workers_of words) (IfNone (groups_of words)
      (IsRun words before.lines after.lines status × ((after.workers ≡ before.workers) × (after.link ≡ before.link)
      × (after.bench ≡ before.bench))))))) e tt;
}

-- what the words of an edge ask for, where they are read
pub asked_for : (of words : EdgeWords) (o : Option EdgeWords) → Some of ≡ o → IfSome o (λ w. of.workers ≡ w.workers)
asked_for of words o e = subst (λ o. IfSome o (λ w. of.workers ≡ w.workers)) e refl
