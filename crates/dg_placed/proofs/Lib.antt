mod HomeLaws
mod StandLaws
mod UseLaws
