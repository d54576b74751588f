pub mod ActLaws
pub mod CallLaws
pub mod CursorLaws
pub mod MeetLaws
pub mod MissingLaws
pub mod StopLaws
pub mod StoreLaws
pub mod TurnLaws
