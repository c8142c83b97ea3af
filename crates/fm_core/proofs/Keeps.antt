-- Every allowed step keeps the state sound.
use Rattle.std.proofs.Common.{List, [], ◌∷◌}
use Rattle.fm_core.proofs.KeepsClaim.{keeps_claim, keeps_start, keeps_record}
use Rattle.fm_core.proofs.KeepsGive.{keeps_give}
use Rattle.fm_core.proofs.KeepsLook.{keeps_look, keeps_pace}
use Rattle.fm_core.proofs.KeepsPublish.{keeps_publish}
use Rattle.fm_core.proofs.KeepsRelease.{keeps_release}
use Rattle.fm_core.specs.Effects.{after, Legal, run}
use Rattle.fm_core.specs.Invariant.{ValidSetting, Sound}
use Rattle.fm_core.specs.State.{Setting, State}
use Rattle.fm_core.specs.Steps.{Allowed}
use Rattle.fm_core.specs.declared.step.Step.{Step}
use Rattle.fm_core.specs.declared.step.Step.TheVariants.{Record, Give, Look, Claim, Start, Recall, Publish, Pace, Release}

-- every allowed step keeps the state sound
pub keeps : (g : Setting) (h : State) (s : Step) → ValidSetting g → Sound g h → Allowed g h s → Sound g (after g h s)
keeps g h (Look s p) valid ok a = keeps_look g h valid ok s p a
keeps g h (Claim s p) valid ok a = keeps_claim g h valid ok s p a
keeps g h (Start s p) valid ok a = keeps_start g h valid ok s p a
keeps g h (Record s p) valid ok a = keeps_record g h valid ok s p a
keeps g h (Recall s p) valid ok a = ok
keeps g h (Give s p t n now ends) valid ok a = keeps_give g h valid ok s p t n now ends a
keeps g h Publish valid ok a = keeps_publish g h valid ok a
keeps g h (Pace s) valid ok a = keeps_pace g h valid ok s a
keeps g h (Release n) valid ok a = keeps_release g h valid ok n a

-- every legal list of steps keeps the state sound
pub keeps_all : (g : Setting) (h : State) (ss : List Step) → ValidSetting g → Sound g h → Legal g h ss → Sound g (run g h ss)
keeps_all g h [] valid ok legal = ok
keeps_all g h (s ∷ ss) valid ok legal = keeps_all g (after g h s) ss valid (keeps g h s valid ok legal.0) legal.1
